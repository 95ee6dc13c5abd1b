-- A legal history reaps each process once, behind its spawning; and where services stand behind it.
use Rattle.std.proofs.Common.{◌≡◌, ◌⊎◌, inl, inr, ℕ, zero, suc, ◌+◌, ◌<◌, Bool, true, false, not, ◌&&◌, nat_lt, nat_le, List, [], ◌∷◌, ◌++◌, length, map, slice_index_or, Option, Some, None, Contains, IsTrue, refl, sym, ap, ◌∙◌, arith, subst, append_assoc}
use Rattle.std.proofs.lemmas.List.{append-nil}
use Rattle.std.specs.List.{AllByRecursion, list_all, list_any}
use Rattle.init_base.specs.Name.{is_legal_name}
use Rattle.init_base.specs.declared.units.Pid.{Pid}
use Rattle.init_machine.specs.Changes.{Change, change, unless_over, and_then, each}
use Rattle.init_machine.specs.History.{after, Legal, inputs_of}
use Rattle.init_machine.specs.Kernel.{Kernel, Process, last_time, how_ended, ending_at, at_time, without, first_named}
use Rattle.init_machine.specs.Marks.{first_marks}
use Rattle.init_machine.specs.Reaping.{reap}
use Rattle.init_machine.specs.Services.{place_of, service_at, pid_of, marks_at, with_marks}
use Rattle.init_machine.specs.Setting.{put_line, put_property}
use Rattle.init_machine.specs.State.{Opening, State, Rules, rules_of, first_state}
use Rattle.init_machine.specs.Step.{reap_ended, time_out, restart_due, move_clock, tick, exit_of, exit}
use Rattle.init_machine.specs.WellFormed.{IsWellFormed, is_well_formed_service, is_period, is_timeout, is_window, has_its_arguments, is_waiting_word}
use Rattle.init_machine.specs.declared.output.How.{How}
use Rattle.init_machine.specs.declared.output.How.TheVariants as how
use Rattle.init_machine.specs.declared.output.Output.{Output}
use Rattle.init_machine.specs.declared.output.Output.TheVariants as output
use Rattle.init_machine.specs.declared.report.Entry.{Entry}
use Rattle.init_machine.specs.declared.service.ServiceDef.{ServiceDef}
use Rattle.machine_laws.specs.Processes.{reaps, WasSpawned, Lives}
use Rattle.machine_laws.specs.Rebooting.{outputs_of}
use Rattle.machine_laws.proofs.Leaving.{ended_stands, exited_stands}
use Rattle.machine_laws.proofs.Living.{IsReapedOnce, AreReapedOnce, reaped-append, reaped_at, Goes, goes_on, silent, same_stands, said_once, runs, reap_goes}
use Rattle.machine_laws.proofs.Options.{none_is_no_value, value_is_none}
use Rattle.machine_laws.proofs.Places.{AreNamed, marks_in, place_of_service}
use Rattle.machine_laws.proofs.Reaping.{Runs}
use Rattle.machine_laws.proofs.Relation.{By, Sets, either, and_then_by}
use Rattle.machine_laws.proofs.Saving.{loaded_by}
use Rattle.machine_laws.proofs.Standing.{Has, IsOwned, Stands, IsNoReap, said}
use Rattle.machine_laws.proofs.Stepping.{Steps, time_out_by, restart_due_by, step_by, history_by}
use Rattle.machine_laws.proofs.Tests.{left_holds, right_holds}
use Rattle.machine_laws.proofs.Taking.{IsTaking, event, change as changed, all, action}

-- from some processes that wait to be reaped to those that are left: none, unless the machine is over
record Ends (rules : Rules) (pending : List Process) (s : State) (lines : List Output) (t : State) : Type 0 where
  reaps : (seen : List Output) → Stands rules seen pending s.kernel s.marks → AreReapedOnce seen lines
  left : List Process
  none : t.over ≡ None → left ≡ []
  stands : (seen : List Output) → Stands rules seen pending s.kernel s.marks → Stands rules (seen ++ lines) left t.kernel t.marks

ends_on : (rules : Rules) (a b : List Process) (s t u : State) (first second : List Output) → Goes rules a b s first t → Ends rules b t second u
    → Ends rules a s (first ++ second) u
ends_on rules a b s t u first second one other = record {
  reaps = λ seen stands. reaped-append seen first second (one.reaps seen stands) (other.reaps (seen ++ first) (one.stands seen stands));
  left = other.left;
  none = other.none;
  stands = λ seen stands. subst (λ all. Stands rules all other.left u.kernel u.marks) (append_assoc seen first second) (other.stands (seen ++ first) (one.stands seen stands));
}

-- the processes that left are reaped, one after another
next_ends : (rules : Rules) (p : Process) (rest : List Process) (s : State) (over : Option (List ℕ)) (c : Change) (rule : State → Change) → c.state.over ≡ over
    → Goes rules (p ∷ rest) rest s c.lines c.state → ((t : State) → t.over ≡ None → Ends rules rest t (rule t).lines (rule t).state)
    → Ends rules (p ∷ rest) s (unless_over over c rule).lines (unless_over over c rule).state
next_ends rules p rest s None c rule is did later =
    ends_on rules (p ∷ rest) rest s c.state (rule c.state).state c.lines (rule c.state).lines did (later c.state is)
next_ends rules p rest s (Some target) c rule is did later = record {
  reaps = did.reaps;
  left = rest;
  none = λ on. absurd (value_is_none target (sym is ∙ on));
  stands = did.stands;
}

each_ends : (rules : Rules) (pending : List Process) (s : State) → s.over ≡ None
    → Ends rules pending s (each (reap_ended rules) pending s).lines (each (reap_ended rules) pending s).state
each_ends rules [] s on = record {
  reaps = λ seen stands. tt;
  left = [];
  none = λ still. refl;
  stands = λ seen stands. subst (λ lines. Stands rules lines [] s.kernel s.marks) (sym (append-nil seen)) stands;
}
each_ends rules (p ∷ rest) s on =
    next_ends rules p rest s (reap_ended rules p s).state.over (reap_ended rules p s) (each (reap_ended rules) rest) refl
    (reap_goes rules p rest (how_ended p) s on) (each_ends rules rest)

-- what a history keeps
abbrev Tops : Rules → State → List Output → State → Type 0
Tops rules s lines t = (left : List Process) → (s.over ≡ None → left ≡ []) → Ends rules left s lines t

top_of : (rules : Rules) (s : State) (lines : List Output) (t : State) → ((pending : List Process) → Goes rules pending pending s lines t)
    → (t.over ≡ None → s.over ≡ None) → Tops rules s lines t
top_of rules s lines t goes back left none =
    record { reaps = (goes left).reaps; left = left; none = λ on. none (back on); stands = (goes left).stands }

tops_joined : (rules : Rules) (s t u : State) (first second : List Output) → Tops rules s first t → Tops rules t second u → Tops rules s (first ++ second) u
tops_joined rules s t u first second one other left none =
    let front = one left none in
    let back = other front.left front.none in
    record {
      reaps = λ seen stands. reaped-append seen first second (front.reaps seen stands) (back.reaps (seen ++ first) (front.stands seen stands));
      left = back.left;
      none = back.none;
      stands = λ seen stands. subst (λ lines. Stands rules lines back.left u.kernel u.marks) (append_assoc seen first second) (back.stands (seen ++ first) (front.stands seen stands));
    }

put_over : (s : State) (name value : List ℕ) → (put_property s name value).state.over ≡ s.over
unfolding put_property
put_over s name value = refl

sets : (rules : Rules) → Sets rules (Tops rules)
sets rules = record {
  none = λ s. top_of rules s [] s (λ pending. (runs rules pending).acts.sets.none s) (λ on. on);
  joined = tops_joined rules;
  line = λ s o plain. top_of rules s (o ∷ []) s (λ pending. (runs rules pending).acts.sets.line s o plain) (λ on. on);
  stored = λ s name saving. top_of rules s _ s (λ pending. (runs rules pending).acts.sets.stored s name saving) (λ on. on);
  aside = λ s t same. top_of rules s [] t (λ pending. (runs rules pending).acts.sets.aside s t same) (λ on. sym same.over ∙ on);
  put = λ s by name value accepted.
      top_of rules s (put_line s name value ∷ []) (put_property s name value).state (λ pending. (runs rules pending).acts.sets.put s by name value accepted)
      (λ on. sym (put_over s name value) ∙ on);
}

tops : (rules : Rules) → Runs rules (Tops rules)
tops rules = record {
  acts = record {
    sets = sets rules;
    mark = λ s at m same. top_of rules s [] (with_marks s at m) (λ pending. (runs rules pending).acts.mark s at m same) (λ on. on);
    spawned = λ s at service on here pid alone. top_of rules s _ _ (λ pending. (runs rules pending).acts.spawned s at service on here pid alone) (λ still. on);
    program = λ s path on pid. top_of rules s _ _ (λ pending. (runs rules pending).acts.program s path on pid) (λ still. on);
    killed = λ s at service pid on here is. top_of rules s _ _ (λ pending. (runs rules pending).acts.killed s at service pid on here is) (λ still. on);
    loaded = loaded_by rules (Tops rules) (sets rules) (record {
      forgotten = λ s name. top_of rules s [] _ (λ pending. silent rules pending pending s _ (λ seen stands. stands)) (λ on. on);
      turned_on = λ s. top_of rules s [] _ (λ pending. silent rules pending pending s _ (λ seen stands. stands)) (λ on. on);
    });
  };
  command = λ s c args. top_of rules s _ s (λ pending. (runs rules pending).command s c args) (λ on. on);
  rebooted = λ s target on. top_of rules s _ _ (λ pending. (runs rules pending).rebooted s target on) (λ still. on);
}

-- The clock moves, and a process exits.

gone_tops : (rules : Rules) (now : ℕ) (s : State) → s.over ≡ None
    → (let gone = each (reap_ended rules) (ending_at s.kernel now) (record s { kernel = at_time s.kernel now }) in Tops rules s gone.lines gone.state)
gone_tops rules now s on left none =
    let t : State = record s { kernel = at_time s.kernel now } in
    let gone = each (reap_ended rules) (ending_at s.kernel now) t in
    subst (λ pending. Ends rules pending s gone.lines gone.state) (sym (none on))
    (ends_on rules [] (ending_at s.kernel now) s t gone.state [] gone.lines
    (silent rules [] (ending_at s.kernel now) s t (λ seen stands. ended_stands rules seen s.kernel s.marks now stands))
    (each_ends rules (ending_at s.kernel now) t on))

clock_tops : (rules : Rules) (s : State) (ms : ℕ) → s.over ≡ None → By (Tops rules) s (tick rules ms s)
unfolding tick
clock_tops rules s ms on =
    let now = s.kernel.clock + ms in
    let gone = each (reap_ended rules) (ending_at s.kernel now) (record s { kernel = at_time s.kernel now }) in
    either (Tops rules) s (nat_lt last_time now) (change s (output.TooFar ∷ [])) (move_clock rules now s)
    (λ far. (sets rules).line s output.TooFar tt)
    (λ near. and_then_by rules (Tops rules) (sets rules) s (and_then gone (time_out rules)) (restart_due rules)
    (and_then_by rules (Tops rules) (sets rules) s gone (time_out rules) (gone_tops rules now s on) (time_out_by rules (Tops rules) (tops rules).acts))
    (restart_due_by rules (Tops rules) (tops rules).acts))

left_none : (rules : Rules) (s : State) (lines : List Output) (t : State) → Goes rules [] [] s lines t → Ends rules [] s lines t
left_none rules s lines t goes = record { reaps = goes.reaps; left = []; none = λ on. refl; stands = goes.stands }

exit_of_tops : (rules : Rules) (name : List ℕ) (status : ℕ) (p : Option Process) (s : State) → s.over ≡ None → first_named s.kernel name ≡ p
    → By (Tops rules) s (exit_of rules status p s)
exit_of_tops rules name status None s on is = (sets rules).line s output.NoProcess tt
exit_of_tops rules name status (Some p) s on is = λ left none.
    let t : State = record s { kernel = without s.kernel p.pid } in
    let did = reap rules p.pid p.name (how.Exit status) t in
    subst (λ pending. Ends rules pending s did.lines did.state) (sym (none on))
    (left_none rules s did.lines did.state
    (goes_on rules [] (p ∷ []) [] s t did.state [] did.lines
    (silent rules [] (p ∷ []) s t (λ seen stands. exited_stands rules seen s.kernel s.marks name p is stands))
    (reap_goes rules p [] (how.Exit status) t on)))

exits_tops : (rules : Rules) (s : State) (name : List ℕ) (status : ℕ) → s.over ≡ None → By (Tops rules) s (exit rules name status s)
unfolding exit
exits_tops rules s name status on = exit_of_tops rules name status (first_named s.kernel name) s on refl

taking_said : (o : Output) → IsTaking o → IsNoReap o
taking_said o (event name) = tt
taking_said o (changed name value) = tt
taking_said o all = tt
taking_said o (action file line) = tt

steps : (rules : Rules) → Steps rules (Tops rules)
steps rules = record {
  runs = tops rules;
  taking = λ s o is. top_of rules s (o ∷ []) s
      (λ pending. said_once rules pending pending s s o (taking_said o is) (λ seen stands. said rules seen pending s.kernel s.marks o (taking_said o is) stands)) (λ on. on);
  scheduled = λ s t same. top_of rules s [] t
      (λ pending. silent rules pending pending s t (λ seen stands. same_stands rules seen pending s t same.kernel same.marks stands)) (λ on. sym same.over ∙ on);
  clock = clock_tops rules;
  exits = exits_tops rules;
}

-- The beginning.

no_pid : (services : List ServiceDef) (at : ℕ) → (marks_in (map (λ (service : ServiceDef). first_marks service.disabled service.oneshot) services) at).pid ≡ None
no_pid [] at = refl
no_pid (x ∷ services) zero = refl
no_pid (x ∷ services) (suc at) = no_pid services at

marks_long : (services : List ServiceDef) → length (map (λ (service : ServiceDef). first_marks service.disabled service.oneshot) services) ≡ length services
marks_long [] = refl
marks_long (x ∷ services) = ap suc (marks_long services)

first_stands : (o : Opening) → Stands (rules_of o.config o.policy) [] [] (first_state o).kernel (first_state o).marks
unfolding first_state
first_stands o = record {
  waiting = tt;
  living = tt;
  once = λ pid. omega arith;
  past = tt;
  given = λ at pid is. absurd (none_is_no_value pid (sym (no_pid o.config.services at) ∙ is));
  apart = λ i j pid one other. absurd (none_is_no_value pid (sym (no_pid o.config.services i) ∙ one));
  serves = λ named. record {
    sized = marks_long o.config.services;
    owned_pending = tt;
    owned_living = tt;
    owns = λ at service pid there is. absurd (none_is_no_value pid (sym (no_pid o.config.services at) ∙ is));
  };
}

legal_ends : (o : Opening) (history : List Entry) → Legal o history → Ends (rules_of o.config o.policy) [] (first_state o) (outputs_of history) (after o (inputs_of history))
legal_ends o history legal =
    let rules = rules_of o.config o.policy in
    history_by o.config o.policy (Tops rules) (sets rules) (step_by o.config o.policy (Tops rules) (steps rules)) (first_state o) history legal [] (λ on. refl)

reaped_once : (o : Opening) (history : List Entry) (earlier later : List Output) (pid : Pid) (name : List ℕ) (how : How) → Legal o history
    → outputs_of history ≡ earlier ++ output.Reap pid name how ∷ later → IsReapedOnce earlier (output.Reap pid name how)
reaped_once o history earlier later pid name how legal is =
    reaped_at [] earlier (output.Reap pid name how) later (subst (AreReapedOnce []) is ((legal_ends o history legal).reaps [] (first_stands o)))

pub spawned_before : (o : Opening) (history : List Entry) (earlier later : List Output) (pid : Pid) (name : List ℕ) (how : How) → Legal o history
    → outputs_of history ≡ earlier ++ output.Reap pid name how ∷ later → WasSpawned earlier pid name
spawned_before o history earlier later pid name how legal is = (reaped_once o history earlier later pid name how legal is).0

pub not_reaped_before : (o : Opening) (history : List Entry) (earlier later : List Output) (pid : Pid) (name : List ℕ) (how : How) → Legal o history
    → outputs_of history ≡ earlier ++ output.Reap pid name how ∷ later → IsTrue (list_all (λ line. not (reaps pid line)) earlier)
not_reaped_before o history earlier later pid name how legal is =
    no_reaps earlier (reaped_once o history earlier later pid name how legal is).1
  where
    no_reaps : (lines : List Output) → AllByRecursion (λ line. reaps pid line ≡ false) lines → list_all (λ line. not (reaps pid line)) lines ≡ true
    no_reaps [] none = refl
    no_reaps (x ∷ lines) none = ap (λ b. not b && list_all (λ line. not (reaps pid line)) lines) none.0 ∙ no_reaps lines none.1

-- The services.

pub services_apart : (o : Opening) (history : List Entry) (i j : ℕ) (pid : Pid) → Legal o history
    → (marks_at (after o (inputs_of history)) i).pid ≡ Some pid → (marks_at (after o (inputs_of history)) j).pid ≡ Some pid → i ≡ j
services_apart o history i j pid legal one other = ((legal_ends o history legal).stands [] (first_stands o)).apart i j pid one other

first_of_seven : (a b c d e f g : Bool) → (a && b && c && d && e && f && g) ≡ true → a ≡ true
first_of_seven true b c d e f g holds = refl
first_of_seven false b c d e f g holds = holds

legal_names : (services : List ServiceDef) → list_all is_well_formed_service services ≡ true → AllByRecursion (λ (s : ServiceDef). is_legal_name s.name ≡ true) services
legal_names [] well = tt
legal_names (x ∷ services) well = (
  first_of_seven (is_legal_name x.name) (nat_le (length x.name) 246) (is_period x.period) (is_timeout x.timeout) (is_window x.critical)
      (list_all has_its_arguments x.onrestart) (not (list_any (λ c. is_waiting_word c.word) x.onrestart))
      (left_holds (is_well_formed_service x) (list_all is_well_formed_service services) well),
  legal_names services (right_holds (is_well_formed_service x) (list_all is_well_formed_service services) well),
)

are_named : (o : Opening) → IsWellFormed o.config → AreNamed (rules_of o.config o.policy)
are_named o well = record { distinct = well.names; legal = legal_names o.config.services well.services }

-- behind a legal history nothing waits to be reaped, unless the machine is over
stands_after : (o : Opening) (history : List Entry) → Legal o history → (after o (inputs_of history)).over ≡ None
    → Stands (rules_of o.config o.policy) (outputs_of history) [] (after o (inputs_of history)).kernel (after o (inputs_of history)).marks
stands_after o history legal on =
    let ends = legal_ends o history legal in
    let s = after o (inputs_of history) in
    subst (λ left. Stands (rules_of o.config o.policy) (outputs_of history) left s.kernel s.marks) (ends.none on) (ends.stands [] (first_stands o))

has_lives : (pid : Pid) (name : List ℕ) (processes : List Process) → Has pid.0 name processes
    → (p : Process) × Contains processes p × (p.pid ≡ pid.0) × (p.name ≡ name)
has_lives pid name [] has = absurd has
has_lives pid name (x ∷ processes) (inl is) = (x, (0, omega arith, refl), is.0, is.1)
has_lives pid name (x ∷ processes) (inr has) =
    let found = has_lives pid name processes has in
    (found.0, (suc found.1.0, (let less = found.1.1 in omega (arith, less)), found.1.2), found.2, found.3)

lives_now : (kernel : Kernel) (pid : Pid) (name : List ℕ) → Has pid.0 name [] ⊎ Has pid.0 name kernel.processes → Lives kernel pid name
lives_now kernel pid name (inl never) = absurd never
lives_now kernel pid name (inr has) =
    let found = has_lives pid name kernel.processes has in record { process = found.0; there = found.1; pid_is = found.2; name_is = found.3 }

pub service_lives : (o : Opening) (history : List Entry) (at : ℕ) (service : ServiceDef) (pid : Pid) → IsWellFormed o.config → Legal o history
    → (after o (inputs_of history)).over ≡ None → service_at (rules_of o.config o.policy) at ≡ Some service
    → (marks_at (after o (inputs_of history)) at).pid ≡ Some pid → Lives (after o (inputs_of history)).kernel pid service.name
service_lives o history at service pid well legal on there is =
    lives_now (after o (inputs_of history)).kernel pid service.name (((stands_after o history legal on).serves (are_named o well)).owns at service pid there is)

all_at : (P : Process → Type 0) (xs : List Process) (p : Process) (k : ℕ) → AllByRecursion P xs → k < length xs → slice_index_or xs k p ≡ p → P p
all_at P [] p k each_holds less is = absurd (omega (arith, less))
all_at P (x ∷ xs) p zero each_holds less is = subst P is each_holds.0
all_at P (x ∷ xs) p (suc k) each_holds less is = all_at P xs p k each_holds.1 (omega (arith, less)) is

pub process_is_owned : (o : Opening) (history : List Entry) (at : ℕ) (service : ServiceDef) (p : Process) → IsWellFormed o.config → Legal o history
    → (after o (inputs_of history)).over ≡ None → service_at (rules_of o.config o.policy) at ≡ Some service
    → Contains (after o (inputs_of history)).kernel.processes p → p.name ≡ service.name
    → (marks_at (after o (inputs_of history)) at).pid ≡ Some (pid_of p.pid)
process_is_owned o history at service p well legal on there among name =
    let rules = rules_of o.config o.policy in
    let s = after o (inputs_of history) in
    let named = are_named o well in
    let owned = all_at (IsOwned rules s.marks) s.kernel.processes p among.0 ((stands_after o history legal on).serves named).owned_living among.1 among.2 in
    owned at (ap (place_of rules) name ∙ place_of_service rules service at named there)
