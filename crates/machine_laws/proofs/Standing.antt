-- The processes that live, those that have left the kernel and wait to be reaped, and the lines that were seen.
use Rattle.std.proofs.Common.{◌≡◌, ◌⊎◌, inl, inr, ℕ, ◌+◌, ◌<◌, ◌≤◌, Bool, true, false, ◌==◌, List, [], ◌∷◌, ◌++◌, length, map, Some, if◌then◌else◌, refl, sym, ap, ◌∙◌, arith}
use Rattle.std.proofs.lemmas.Bool.{eqb-true, ne_eqb}
use Rattle.std.proofs.lemmas.List.Elements.{Contains-append_left, Contains-push}
use Rattle.std.specs.List.{AllByRecursion}
use Rattle.init_base.specs.declared.units.Pid.{Pid}
use Rattle.init_machine.specs.Kernel.{Kernel, Process, with_process, with_kill, marked, planned_end}
use Rattle.init_machine.specs.Services.{place_of, service_at, pid_of}
use Rattle.init_machine.specs.State.{Rules}
use Rattle.init_machine.specs.declared.output.Output.{Output}
use Rattle.init_machine.specs.declared.output.Output.TheVariants as output
use Rattle.init_machine.specs.declared.service.Marks.{Marks}
use Rattle.init_machine.specs.declared.service.ServiceDef.{ServiceDef}
use Rattle.machine_laws.specs.Processes.{reaps, WasSpawned}
use Rattle.machine_laws.proofs.Members.{all_map, all_append}
use Rattle.machine_laws.proofs.Places.{AreNamed, marks_in}

-- a process of the machine: its pid was given out, its spawning was seen, and its reaping wasn't
pub record IsOut (seen : List Output) (next : ℕ) (p : Process) : Type 0 where
  pub below : p.pid < next
  pub spawned : WasSpawned seen (pid_of p.pid) p.name
  pub unreaped : AllByRecursion (λ o. reaps (pid_of p.pid) o ≡ false) seen

-- a reaping is of a pid that was given out
abbrev pub IsPast : ℕ → Output → Type 0
IsPast next (output.Reap pid name how) = pid.0 < next
IsPast next _ = Unit {0}

-- a line reaps none
abbrev pub IsNoReap : Output → Type 0
IsNoReap (output.Reap pid name how) = ⊥
IsNoReap _ = Unit {0}

abbrev pub one_if : Bool → ℕ
one_if true = 1
one_if false = 0

-- how many processes have a pid
abbrev pub count_pid : ℕ → List Process → ℕ
count_pid pid [] = 0
count_pid pid (p ∷ rest) = one_if (p.pid == pid) + count_pid pid rest

-- some process has a pid and a name
abbrev pub Has : ℕ → List ℕ → List Process → Type 0
Has pid name [] = ⊥
Has pid name (p ∷ rest) = ((p.pid ≡ pid) × (p.name ≡ name)) ⊎ Has pid name rest

-- the service of a process's name has its pid
abbrev pub IsOwned : Rules → List Marks → Process → Type 0
IsOwned rules marks p = (at : ℕ) → place_of rules p.name ≡ Some at → (marks_in marks at).pid ≡ Some (pid_of p.pid)

-- services and processes belong to each other
pub record Serves (rules : Rules) (pending : List Process) (kernel : Kernel) (marks : List Marks) : Type 0 where
  pub sized : length marks ≡ length rules.services
  pub owned_pending : AllByRecursion (IsOwned rules marks) pending
  pub owned_living : AllByRecursion (IsOwned rules marks) kernel.processes
  pub owns : (at : ℕ) (service : ServiceDef) (pid : Pid) → service_at rules at ≡ Some service → (marks_in marks at).pid ≡ Some pid
      → Has pid.0 service.name pending ⊎ Has pid.0 service.name kernel.processes

-- where processes stand behind some lines; some have left the kernel, and wait to be reaped
pub record Stands (rules : Rules) (seen : List Output) (pending : List Process) (kernel : Kernel) (marks : List Marks) : Type 0 where
  pub waiting : AllByRecursion (IsOut seen kernel.next_pid) pending
  pub living : AllByRecursion (IsOut seen kernel.next_pid) kernel.processes
  pub once : (pid : ℕ) → count_pid pid pending + count_pid pid kernel.processes ≤ 1
  pub past : AllByRecursion (IsPast kernel.next_pid) seen
  pub given : (at : ℕ) (pid : Pid) → (marks_in marks at).pid ≡ Some pid → pid.0 < kernel.next_pid
  pub apart : (i j : ℕ) (pid : Pid) → (marks_in marks i).pid ≡ Some pid → (marks_in marks j).pid ≡ Some pid → i ≡ j
  pub serves : AreNamed rules → Serves rules pending kernel marks

-- Lines.

pub no_reap_of : (o : Output) (pid : Pid) → IsNoReap o → reaps pid o ≡ false
no_reap_of (output.Reap other name how) pid none = absurd none
no_reap_of _ pid none = refl

no_reap_past : (o : Output) (next : ℕ) → IsNoReap o → IsPast next o
no_reap_past (output.Reap other name how) next none = absurd none
no_reap_past _ next none = tt

past_further : (next later : ℕ) → next ≤ later → (o : Output) → IsPast next o → IsPast later o
past_further next later more (output.Reap pid name how) past = omega (arith, past)
past_further next later more _ past = tt

-- the next pid is no reaped one
fresh : (next : ℕ) (o : Output) → IsPast next o → reaps (pid_of next) o ≡ false
fresh next (output.Reap pid name how) past = ne_eqb pid.0 next (λ same. absurd (omega (arith, past, same)))
fresh next _ past = refl

pub out_further : (seen : List Output) (next later : ℕ) (o : Output) (p : Process) → next ≤ later → reaps (pid_of p.pid) o ≡ false → IsOut seen next p
    → IsOut (seen ++ o ∷ []) later p
out_further seen next later o p more unreaped out = record {
  below = (let less = out.below in omega (arith, less));
  spawned = record { path = out.spawned.path; line = Contains-append_left seen (o ∷ []) (output.Spawn (pid_of p.pid) p.name out.spawned.path) out.spawned.line };
  unreaped = all_append (λ (line : Output). reaps (pid_of p.pid) line ≡ false) seen (o ∷ []) out.unreaped (unreaped, tt);
}

-- a line that reaps none
pub said : (rules : Rules) (seen : List Output) (pending : List Process) (kernel : Kernel) (marks : List Marks) (o : Output) → IsNoReap o
    → Stands rules seen pending kernel marks → Stands rules (seen ++ o ∷ []) pending kernel marks
said rules seen pending kernel marks o none stands =
    let further : (p : Process) → IsOut seen kernel.next_pid p → IsOut (seen ++ o ∷ []) kernel.next_pid p =
    λ p out. out_further seen kernel.next_pid kernel.next_pid o p (omega arith) (no_reap_of o (pid_of p.pid) none) out in
    record {
      waiting = all_map (IsOut seen kernel.next_pid) (IsOut (seen ++ o ∷ []) kernel.next_pid) further pending stands.waiting;
      living = all_map (IsOut seen kernel.next_pid) (IsOut (seen ++ o ∷ []) kernel.next_pid) further kernel.processes stands.living;
      once = stands.once;
      past = all_append (IsPast kernel.next_pid) seen (o ∷ []) stands.past (no_reap_past o kernel.next_pid none, tt);
      given = stands.given;
      apart = stands.apart;
      serves = stands.serves;
    }

-- Marks with the same processes.

pub remarked : (rules : Rules) (seen : List Output) (pending : List Process) (kernel : Kernel) (marks now : List Marks) → length now ≡ length marks
    → ((at : ℕ) → (marks_in now at).pid ≡ (marks_in marks at).pid) → Stands rules seen pending kernel marks → Stands rules seen pending kernel now
remarked rules seen pending kernel marks now long same stands = record {
  waiting = stands.waiting;
  living = stands.living;
  once = stands.once;
  past = stands.past;
  given = λ at pid is. stands.given at pid (sym (same at) ∙ is);
  apart = λ i j pid one other. stands.apart i j pid (sym (same i) ∙ one) (sym (same j) ∙ other);
  serves = λ named. (let serves = stands.serves named in record {
    sized = long ∙ serves.sized;
    owned_pending = all_map (IsOwned rules marks) (IsOwned rules now) (λ p owned at is. same at ∙ owned at is) pending serves.owned_pending;
    owned_living = all_map (IsOwned rules marks) (IsOwned rules now) (λ p owned at is. same at ∙ owned at is) kernel.processes serves.owned_living;
    owns = λ at service pid there is. serves.owns at service pid there (sym (same at) ∙ is);
  });
}

-- A process is spawned.

abbrev pub new_process : Rules → Kernel → List ℕ → List ℕ → Process
new_process rules kernel name path = record { pid = kernel.next_pid; name = name; end = planned_end rules.plans kernel.clock path; killed = false }

count-append : (pid : ℕ) (xs ys : List Process) → count_pid pid (xs ++ ys) ≡ count_pid pid xs + count_pid pid ys
count-append pid [] ys = omega arith
count-append pid (x ∷ xs) ys =
    let rest = count-append pid xs ys in
    let one = one_if (x.pid == pid) in
    let all : one + count_pid pid (xs ++ ys) ≡ (one + count_pid pid xs) + count_pid pid ys = omega (arith, rest) in
    all

count_above : (seen : List Output) (next pid : ℕ) (xs : List Process) → next ≤ pid → AllByRecursion (IsOut seen next) xs → count_pid pid xs ≡ 0
count_above seen next pid [] above out = refl
count_above seen next pid (x ∷ xs) above out =
    let rest = count_above seen next pid xs above out.1 in
    let differ : (x.pid == pid) ≡ false = ne_eqb x.pid pid (λ same. let less = out.0.below in absurd (omega (arith, less, same))) in
    rw differ (omega (arith, rest))

-- a pid is given out once
once_more : (seen : List Output) (next pid : ℕ) (pending processes : List Process) (new : Process) → new.pid ≡ next
    → AllByRecursion (IsOut seen next) pending → AllByRecursion (IsOut seen next) processes
    → count_pid pid pending + count_pid pid processes ≤ 1 → count_pid pid pending + count_pid pid (processes ++ new ∷ []) ≤ 1
once_more seen next pid pending processes new is waiting living once =
    let all = count-append pid processes (new ∷ []) in
    elim (new.pid == pid) as (λ b. (new.pid == pid) ≡ b → count_pid pid (processes ++ new ∷ []) ≡ count_pid pid processes + (one_if b + 0)
    → count_pid pid pending + count_pid pid (processes ++ new ∷ []) ≤ 1) [
      | true ↦ λ same more.
          let e = eqb-true new.pid pid same in
          let none = count_above seen next pid pending (omega (arith, is, e)) waiting in
          let neither = count_above seen next pid processes (omega (arith, is, e)) living in
          omega (arith, more, none, neither)
      | false ↦ λ differ more. omega (arith, more, once)
    ] refl all

-- what the next process is
new_is_out : (rules : Rules) (seen : List Output) (kernel : Kernel) (name path : List ℕ) → AllByRecursion (IsPast kernel.next_pid) seen
    → IsOut (seen ++ output.Spawn (pid_of kernel.next_pid) name path ∷ []) (kernel.next_pid + 1) (new_process rules kernel name path)
new_is_out rules seen kernel name path past = record {
  below = omega arith;
  spawned = record { path = path; line = Contains-push seen (output.Spawn (pid_of kernel.next_pid) name path) };
  unreaped = all_append (λ (o : Output). reaps (pid_of kernel.next_pid) o ≡ false) seen (output.Spawn (pid_of kernel.next_pid) name path ∷ [])
      (all_map (IsPast kernel.next_pid) (λ (o : Output). reaps (pid_of kernel.next_pid) o ≡ false) (fresh kernel.next_pid) seen past) (refl, tt);
}

pub has-append_left : (pid : ℕ) (name : List ℕ) (xs ys : List Process) → Has pid name xs → Has pid name (xs ++ ys)
has-append_left pid name [] ys has = absurd has
has-append_left pid name (x ∷ xs) ys (inl is) = inl is
has-append_left pid name (x ∷ xs) ys (inr has) = inr (has-append_left pid name xs ys has)

pub has_last : (p : Process) (xs : List Process) → Has p.pid p.name (xs ++ p ∷ [])
has_last p [] = inl (refl, refl)
has_last p (x ∷ xs) = inr (has_last p xs)

-- where the marks are such that services and processes still belong to each other
pub spawned_stands : (rules : Rules) (seen : List Output) (pending : List Process) (kernel : Kernel) (marks now : List Marks) (name path : List ℕ)
    → ((at : ℕ) (pid : Pid) → (marks_in now at).pid ≡ Some pid → pid.0 < kernel.next_pid + 1)
    → ((i j : ℕ) (pid : Pid) → (marks_in now i).pid ≡ Some pid → (marks_in now j).pid ≡ Some pid → i ≡ j)
    → (AreNamed rules → Serves rules pending kernel marks → Serves rules pending (with_process rules.plans kernel name path) now)
    → Stands rules seen pending kernel marks
    → Stands rules (seen ++ output.Spawn (pid_of kernel.next_pid) name path ∷ []) pending (with_process rules.plans kernel name path) now
spawned_stands rules seen pending kernel marks now name path given apart serves stands =
    let o = output.Spawn (pid_of kernel.next_pid) name path in
    let further : (p : Process) → IsOut seen kernel.next_pid p → IsOut (seen ++ o ∷ []) (kernel.next_pid + 1) p =
    λ p out. out_further seen kernel.next_pid (kernel.next_pid + 1) o p (omega arith) refl out in
    record {
      waiting = all_map (IsOut seen kernel.next_pid) (IsOut (seen ++ o ∷ []) (kernel.next_pid + 1)) further pending stands.waiting;
      living = all_append (IsOut (seen ++ o ∷ []) (kernel.next_pid + 1)) kernel.processes (new_process rules kernel name path ∷ [])
          (all_map (IsOut seen kernel.next_pid) (IsOut (seen ++ o ∷ []) (kernel.next_pid + 1)) further kernel.processes stands.living)
          (new_is_out rules seen kernel name path stands.past, tt);
      once = λ pid. once_more seen kernel.next_pid pid pending kernel.processes (new_process rules kernel name path) refl stands.waiting stands.living (stands.once pid);
      past = all_append (IsPast (kernel.next_pid + 1)) seen (o ∷ [])
          (all_map (IsPast kernel.next_pid) (IsPast (kernel.next_pid + 1)) (past_further kernel.next_pid (kernel.next_pid + 1) (omega arith)) seen stands.past) (tt, tt);
      given = given;
      apart = apart;
      serves = λ named. serves named (stands.serves named);
    }

-- A process is killed.

all_marked : (P : Process → Type 0) (pid : ℕ) → ((p : Process) → P p → P (record p { killed = true })) → (xs : List Process) → AllByRecursion P xs
    → AllByRecursion P (map (marked pid) xs)
all_marked P pid keeps [] all = tt
all_marked P pid keeps (x ∷ xs) all =
    (elim (x.pid == pid) as (λ b. P (if b then record x { killed = true } else x)) [ true ↦ keeps x all.0 | false ↦ all.0 ], all_marked P pid keeps xs all.1)

marked_pid : (pid : ℕ) (x : Process) → (marked pid x).pid ≡ x.pid
marked_pid pid x = elim (x.pid == pid) as (λ b. (if b then record x { killed = true } else x).pid ≡ x.pid) [ true ↦ refl | false ↦ refl ]

marked_name : (pid : ℕ) (x : Process) → (marked pid x).name ≡ x.name
marked_name pid x = elim (x.pid == pid) as (λ b. (if b then record x { killed = true } else x).name ≡ x.name) [ true ↦ refl | false ↦ refl ]

count_marked : (pid killed : ℕ) (xs : List Process) → count_pid pid (map (marked killed) xs) ≡ count_pid pid xs
count_marked pid killed [] = refl
count_marked pid killed (x ∷ xs) =
    ap (λ n. one_if (n == pid) + count_pid pid (map (marked killed) xs)) (marked_pid killed x)
    ∙ ap (λ n. one_if (x.pid == pid) + n) (count_marked pid killed xs)

has_marked : (pid killed : ℕ) (name : List ℕ) (xs : List Process) → Has pid name xs → Has pid name (map (marked killed) xs)
has_marked pid killed name [] has = has
has_marked pid killed name (x ∷ xs) (inl is) = inl (marked_pid killed x ∙ is.0, marked_name killed x ∙ is.1)
has_marked pid killed name (x ∷ xs) (inr has) = inr (has_marked pid killed name xs has)

has_still : (pid killed : ℕ) (name : List ℕ) (xs ys : List Process) → Has pid name xs ⊎ Has pid name ys → Has pid name xs ⊎ Has pid name (map (marked killed) ys)
has_still pid killed name xs ys (inl has) = inl has
has_still pid killed name xs ys (inr has) = inr (has_marked pid killed name ys has)

pub killed_stands : (rules : Rules) (seen : List Output) (pending : List Process) (kernel : Kernel) (marks : List Marks) (pid : ℕ)
    → Stands rules seen pending kernel marks → Stands rules seen pending (with_kill kernel pid) marks
killed_stands rules seen pending kernel marks pid stands = record {
  waiting = stands.waiting;
  living = all_marked (IsOut seen kernel.next_pid) pid (λ p out. record { below = out.below; spawned = out.spawned; unreaped = out.unreaped }) kernel.processes stands.living;
  once = λ other. (let same = count_marked other pid kernel.processes in let was = stands.once other in omega (arith, same, was));
  past = stands.past;
  given = stands.given;
  apart = stands.apart;
  serves = λ named. (let serves = stands.serves named in record {
    sized = serves.sized;
    owned_pending = serves.owned_pending;
    owned_living = all_marked (IsOwned rules marks) pid (λ p owned. owned) kernel.processes serves.owned_living;
    owns = λ at service other there is. has_still other.0 pid service.name pending kernel.processes (serves.owns at service other there is);
  });
}
