-- Each process is spawned before it is reaped, and reaped once; each service has one process at most.
use Rattle.std.proofs.Common.{◌≡◌, ℕ, zero, suc, true, false, not, ◌&&◌, ◌||◌, List, [], ◌∷◌, ◌++◌, slice_set, Option, Some, None, if◌then◌else◌, codes, refl, sym, ◌∙◌, subst, append_assoc}
use Rattle.std.proofs.lemmas.List.{append-nil}
use Rattle.std.specs.List.{AllByRecursion}
use Rattle.init_base.specs.declared.units.Pid.{Pid}
use Rattle.init_machine.specs.Changes.{Change, behind, unless_over}
use Rattle.init_machine.specs.Kernel.{Process, with_kill, with_process}
use Rattle.init_machine.specs.Marks.{does, service_step, ended}
use Rattle.init_machine.specs.Reaping.{end_named, end_service, follow_end, release_child, reap}
use Rattle.init_machine.specs.Services.{place_of, service_at, pid_of, marks_at, with_marks, with_spawned}
use Rattle.init_machine.specs.Setting.{put_line, put_property}
use Rattle.init_machine.specs.State.{State, Rules}
use Rattle.init_machine.specs.declared.output.How.{How}
use Rattle.init_machine.specs.declared.output.Output.{Output}
use Rattle.init_machine.specs.declared.output.Output.TheVariants as output
use Rattle.init_machine.specs.declared.service.Marks.{Marks}
use Rattle.init_machine.specs.declared.service.Move.TheVariants as move
use Rattle.init_machine.specs.declared.service.Op.TheVariants as op
use Rattle.init_machine.specs.declared.service.ServiceDef.{ServiceDef}
use Rattle.machine_laws.specs.Processes.{reaps, WasSpawned}
use Rattle.machine_laws.proofs.Leaving.{Differs, reaped_stands, reaped_is_out, ended_serves, unnamed_serves, fewer_pids}
use Rattle.machine_laws.proofs.Options.{value_is_none}
use Rattle.machine_laws.proofs.Places.{AreNamed, marks_in, marks_length, service_of_place}
use Rattle.machine_laws.proofs.Reaping.{Runs, follow_end_by, release_by}
use Rattle.machine_laws.proofs.Relation.{IsPlain, Sets}
use Rattle.machine_laws.proofs.Saving.{loaded_by}
use Rattle.machine_laws.proofs.Spawning.{service_stands, program_stands}
use Rattle.machine_laws.proofs.Standing.{IsNoReap, Serves, Stands, said, remarked, killed_stands}

-- a reaping is of a process that was spawned, and not reaped yet
abbrev pub IsReapedOnce : List Output → Output → Type 0
IsReapedOnce seen (output.Reap pid name how) = WasSpawned seen pid name × AllByRecursion (λ o. reaps pid o ≡ false) seen
IsReapedOnce seen _ = Unit {0}

abbrev pub AreReapedOnce : List Output → List Output → Type 0
AreReapedOnce seen [] = Unit {0}
AreReapedOnce seen (o ∷ rest) = IsReapedOnce seen o × AreReapedOnce (seen ++ o ∷ []) rest

pub reaped-append : (seen first second : List Output) → AreReapedOnce seen first → AreReapedOnce (seen ++ first) second → AreReapedOnce seen (first ++ second)
reaped-append seen [] second one other = subst (λ all. AreReapedOnce all second) (append-nil seen) other
reaped-append seen (o ∷ first) second one other =
    (one.0, reaped-append (seen ++ o ∷ []) first second one.1 (subst (λ all. AreReapedOnce all second) (sym (append_assoc seen (o ∷ []) first)) other))

pub reaped_at : (seen earlier : List Output) (o : Output) (later : List Output) → AreReapedOnce seen (earlier ++ o ∷ later) → IsReapedOnce (seen ++ earlier) o
reaped_at seen [] o later all = subst (λ before. IsReapedOnce before o) (sym (append-nil seen)) all.0
reaped_at seen (x ∷ earlier) o later all =
    subst (λ before. IsReapedOnce before o) (append_assoc seen (x ∷ []) earlier) (reaped_at (seen ++ x ∷ []) earlier o later all.1)

-- from some processes that wait to be reaped to others
pub record Goes (rules : Rules) (a b : List Process) (s : State) (lines : List Output) (t : State) : Type 0 where
  pub reaps : (seen : List Output) → Stands rules seen a s.kernel s.marks → AreReapedOnce seen lines
  pub stands : (seen : List Output) → Stands rules seen a s.kernel s.marks → Stands rules (seen ++ lines) b t.kernel t.marks

pub goes_on : (rules : Rules) (a b c : List Process) (s t u : State) (first second : List Output) → Goes rules a b s first t → Goes rules b c t second u
    → Goes rules a c s (first ++ second) u
goes_on rules a b c s t u first second one other = record {
  reaps = λ seen stands. reaped-append seen first second (one.reaps seen stands) (other.reaps (seen ++ first) (one.stands seen stands));
  stands = λ seen stands. subst (λ all. Stands rules all c u.kernel u.marks) (append_assoc seen first second) (other.stands (seen ++ first) (one.stands seen stands));
}

-- nothing is said
pub silent : (rules : Rules) (a b : List Process) (s t : State) → ((seen : List Output) → Stands rules seen a s.kernel s.marks → Stands rules seen b t.kernel t.marks)
    → Goes rules a b s [] t
silent rules a b s t stands = record {
  reaps = λ seen was. tt;
  stands = λ seen was. subst (λ all. Stands rules all b t.kernel t.marks) (sym (append-nil seen)) (stands seen was);
}

-- a line that reaps none
no_reap_is_once : (seen : List Output) (o : Output) → IsNoReap o → IsReapedOnce seen o
no_reap_is_once seen (output.Reap pid name how) none = absurd none
no_reap_is_once seen _ none = tt

pub said_once : (rules : Rules) (a b : List Process) (s t : State) (o : Output) → IsNoReap o
    → ((seen : List Output) → Stands rules seen a s.kernel s.marks → Stands rules (seen ++ o ∷ []) b t.kernel t.marks) → Goes rules a b s (o ∷ []) t
said_once rules a b s t o none stands = record {
  reaps = λ seen was. (no_reap_is_once seen o none, tt);
  stands = stands;
}

pub same_stands : (rules : Rules) (seen : List Output) (pending : List Process) (s t : State) → t.kernel ≡ s.kernel → t.marks ≡ s.marks
    → Stands rules seen pending s.kernel s.marks → Stands rules seen pending t.kernel t.marks
same_stands rules seen pending s t kernel marks stands =
    subst (λ k. Stands rules seen pending k t.marks) (sym kernel) (subst (λ m. Stands rules seen pending s.kernel m) (sym marks) stands)

plain_reaps_none : (o : Output) → IsPlain o → IsNoReap o
plain_reaps_none (output.Reap pid name how) plain = plain
plain_reaps_none _ plain = tt

other_marks : (marks : List Marks) (at : ℕ) (m : Marks) → m.pid ≡ (marks_in marks at).pid → (j : ℕ) → (marks_in (slice_set marks at m) j).pid ≡ (marks_in marks j).pid
other_marks [] at m same j = refl
other_marks (x ∷ marks) zero m same zero = same
other_marks (x ∷ marks) zero m same (suc j) = refl
other_marks (x ∷ marks) (suc at) m same zero = refl
other_marks (x ∷ marks) (suc at) m same (suc j) = other_marks marks at m same j

spawned_pid : (pid : Pid) (s : State) (at : ℕ) → (service_step (op.Spawned pid (record { 0 = s.kernel.clock })) (marks_at s at)).marks.pid ≡ Some pid
unfolding service_step
spawned_pid pid s at = refl

put_goes : (rules : Rules) (pending : List Process) (s : State) (name value : List ℕ)
    → Goes rules pending pending s (put_line s name value ∷ []) (put_property s name value).state
unfolding put_property
put_goes rules pending s name value =
    said_once rules pending pending s _ (put_line s name value) tt (λ seen stands. said rules seen pending s.kernel s.marks (put_line s name value) tt stands)

sets : (rules : Rules) (pending : List Process) → Sets rules (Goes rules pending pending)
sets rules pending = record {
  none = λ s. silent rules pending pending s s (λ seen stands. stands);
  joined = goes_on rules pending pending pending;
  line = λ s o plain. said_once rules pending pending s s o (plain_reaps_none o plain) (λ seen stands. said rules seen pending s.kernel s.marks o (plain_reaps_none o plain) stands);
  stored = λ s name on. said_once rules pending pending s s (output.Stored name) tt (λ seen stands. said rules seen pending s.kernel s.marks (output.Stored name) tt stands);
  aside = λ s t same. silent rules pending pending s t (λ seen stands. same_stands rules seen pending s t same.kernel same.marks stands);
  put = λ s by name value accepted. put_goes rules pending s name value;
}

pub runs : (rules : Rules) (pending : List Process) → Runs rules (Goes rules pending pending)
runs rules pending = record {
  acts = record {
    sets = sets rules pending;
    mark = λ s at m same. silent rules pending pending s (with_marks s at m)
        (λ seen stands. remarked rules seen pending s.kernel s.marks (slice_set s.marks at m) (marks_length s.marks at m) (other_marks s.marks at m same) stands);
    spawned = λ s at service on here pid alone. said_once rules pending pending s (with_spawned rules service.name service.path at s) _ tt
        (λ seen stands. service_stands rules seen pending s.kernel s.marks at
        (service_step (op.Spawned (pid_of s.kernel.next_pid) (record { 0 = s.kernel.clock })) (marks_at s at)).marks service here alone
        (spawned_pid (pid_of s.kernel.next_pid) s at) stands);
    program = λ s path on pid. said_once rules pending pending s (record s { kernel = with_process rules.plans s.kernel (codes "*exec") path }) _ tt
        (λ seen stands. program_stands rules seen pending s.kernel s.marks path stands);
    killed = λ s at service pid on here is. said_once rules pending pending s (record s { kernel = with_kill s.kernel pid.0 }) (output.Kill pid service.name) tt
        (λ seen stands. killed_stands rules (seen ++ output.Kill pid service.name ∷ []) pending s.kernel s.marks pid.0
        (said rules seen pending s.kernel s.marks (output.Kill pid service.name) tt stands));
    loaded = loaded_by rules (Goes rules pending pending) (sets rules pending) (record {
      forgotten = λ s name. silent rules pending pending s _ (λ seen stands. stands);
      turned_on = λ s. silent rules pending pending s _ (λ seen stands. stands);
    });
  };
  command = λ s c args. said_once rules pending pending s s _ tt (λ seen stands. said rules seen pending s.kernel s.marks _ tt stands);
  rebooted = λ s target on. said_once rules pending pending s (record s { over = Some target }) (output.Reboot target) tt
      (λ seen stands. said rules seen pending s.kernel s.marks (output.Reboot target) tt stands);
}

-- Reaping.

ended_pid : (m : Marks) → m.pid ≡ None → (ended m).marks.pid ≡ None
ended_pid m none =
    elim (m.disabled || m.reset) as (λ b. (if b then does (record m { again = false }) move.Stopped else does (record m { again = false; restarting = true }) move.Exited).marks.pid ≡ None) [
      | true ↦ none
      | false ↦ none
    ]

reaped_pid : (s : State) (at : ℕ) → (service_step op.Reaped (marks_at s at)).marks.pid ≡ None
unfolding service_step
reaped_pid s at =
    let m = marks_at s at in
    ended_pid (record m { pid = None; killed = false; disabled = m.disabled || (m.oneshot && not m.again && not m.reset) }) refl

module _ (rules : Rules) (p : Process) (rest : List Process) (how : How) where
  -- the reaping, and what its service has then
  line_goes : (s : State) (now : List Marks)
      → ((at : ℕ) (pid : Pid) → (marks_in now at).pid ≡ Some pid → (marks_in s.marks at).pid ≡ Some pid)
      → (AreNamed rules → Serves rules (p ∷ rest) s.kernel s.marks → AllByRecursion (Differs p.pid) rest → AllByRecursion (Differs p.pid) s.kernel.processes
      → Serves rules rest s.kernel now)
      → Goes rules (p ∷ rest) rest s (output.Reap (pid_of p.pid) p.name how ∷ []) (record s { marks = now })
  line_goes s now fewer serves = record {
    reaps = λ seen stands. (reaped_is_out rules seen p rest s.kernel s.marks stands, tt);
    stands = λ seen stands. reaped_stands rules seen p rest s.kernel s.marks now how fewer serves stands;
  }

  service_ends : (s : State) (at : ℕ) (service : Option ServiceDef) → s.over ≡ None → place_of rules p.name ≡ Some at → service_at rules at ≡ service
      → Goes rules (p ∷ rest) rest s (output.Reap (pid_of p.pid) p.name how ∷ (end_service rules at service s).lines) (end_service rules at service s).state
  service_ends s at None on is none =
      line_goes s s.marks (λ j pid same. same)
      (λ named serves one other. let found = service_of_place rules p.name at is in absurd (value_is_none found.service (sym found.there ∙ none)))
  service_ends s at (Some service) on is here =
      let answer = service_step op.Reaped (marks_at s at) in
      let t = with_marks s at answer.marks in
      let did = follow_end rules service at answer.todo t in
      goes_on rules (p ∷ rest) rest rest s t did.state (output.Reap (pid_of p.pid) p.name how ∷ []) did.lines
      (line_goes s (slice_set s.marks at answer.marks) (fewer_pids s.marks at answer.marks (reaped_pid s at))
      (λ named serves one other. ended_serves rules p rest s.kernel s.marks at answer.marks (reaped_pid s at) is named serves one other))
      (follow_end_by rules (Goes rules rest rest) (runs rules rest) service at answer.todo t on)

  name_ends : (s : State) (place : Option ℕ) → s.over ≡ None → place_of rules p.name ≡ place
      → Goes rules (p ∷ rest) rest s (output.Reap (pid_of p.pid) p.name how ∷ (end_named rules place s).lines) (end_named rules place s).state
  name_ends s None on is =
      line_goes s s.marks (λ j pid same. same) (λ named serves one other. unnamed_serves rules p rest s.kernel s.marks is named serves)
  name_ends s (Some at) on is = service_ends s at (service_at rules at) on is refl

  then_released : (s : State) (over : Option (List ℕ)) (c : Change) → Goes rules (p ∷ rest) rest s c.lines c.state
      → Goes rules (p ∷ rest) rest s (unless_over over c (release_child p.pid)).lines (unless_over over c (release_child p.pid)).state
  then_released s None c did =
      goes_on rules (p ∷ rest) rest rest s c.state (release_child p.pid c.state).state c.lines (release_child p.pid c.state).lines did
      (release_by rules (Goes rules rest rest) (runs rules rest) p.pid c.state)
  then_released s (Some target) c did = did

  -- the first process that waits is reaped
  pub reap_goes : (s : State) → s.over ≡ None → Goes rules (p ∷ rest) rest s (reap rules p.pid p.name how s).lines (reap rules p.pid p.name how s).state
  unfolding reap
  reap_goes s on =
      let c = behind (output.Reap (pid_of p.pid) p.name how ∷ []) (end_named rules (place_of rules p.name) s) in
      then_released s c.state.over c (name_ends s (place_of rules p.name) on refl)
