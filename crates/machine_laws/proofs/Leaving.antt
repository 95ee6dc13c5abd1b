-- Processes leave the kernel, and are reaped.
use Rattle.std.proofs.Common.{◌≡◌, ◌≢◌, ◌⊎◌, inl, inr, ℕ, zero, suc, ◌+◌, ◌<◌, ◌≤◌, Bool, true, false, not, ◌==◌, List, [], ◌∷◌, ◌++◌, length, filter, find, cond, slice_set, Some, None, refl, sym, ap, ◌∙◌, arith, subst}
use Rattle.std.proofs.lemmas.Bool.{eqb-true, eqb-false, eq-eqb, ne_eqb}
use Rattle.std.proofs.lemmas.Bool.Decides.{eqb_tells}
use Rattle.std.specs.List.{AllByRecursion}
use Rattle.std.specs.Str.{bytes_eq}
use Rattle.init_base.specs.declared.units.Pid.{Pid}
use Rattle.init_machine.specs.Kernel.{Kernel, Process, has_ended, ending_at, at_time, without, first_named}
use Rattle.init_machine.specs.Services.{place_of, pid_of}
use Rattle.init_machine.specs.State.{Rules}
use Rattle.init_machine.specs.declared.output.How.{How}
use Rattle.init_machine.specs.declared.output.Output.{Output}
use Rattle.init_machine.specs.declared.output.Output.TheVariants as output
use Rattle.init_machine.specs.declared.service.Marks.{Marks}
use Rattle.init_machine.specs.declared.service.ServiceDef.{ServiceDef}
use Rattle.machine_laws.specs.Processes.{reaps, WasSpawned}
use Rattle.machine_laws.proofs.Members.{all_map, all_append, all_filter, all_both}
use Rattle.machine_laws.proofs.Options.{none_is_no_value, same_value}
use Rattle.machine_laws.proofs.Places.{AreNamed, marks_in, marks_put, marks_there, marks_length, service_of_place, place_of_service, within_services}
use Rattle.machine_laws.proofs.Standing.{IsOut, IsPast, one_if, count_pid, Has, IsOwned, Serves, Stands, out_further}

abbrev pub Differs : ℕ → Process → Type 0
Differs pid p = (p.pid == pid) ≡ false

all_differ : (pid : ℕ) (xs : List Process) → count_pid pid xs ≡ 0 → AllByRecursion (Differs pid) xs
all_differ pid [] none = tt
all_differ pid (x ∷ xs) none =
    elim (x.pid == pid) as (λ b. (x.pid == pid) ≡ b → one_if b + count_pid pid xs ≡ 0 → Differs pid x × AllByRecursion (Differs pid) xs) [
      | true ↦ λ same never. absurd (omega (arith, never))
      | false ↦ λ differ rest. (differ, all_differ pid xs (omega (arith, rest)))
    ] refl none

itself : (n : ℕ) → (n == n) ≡ true
itself n = eq-eqb n n refl

-- a process that waits to be reaped is the only one of its pid
others_differ : (p : Process) (rest processes : List Process) → count_pid p.pid (p ∷ rest) + count_pid p.pid processes ≤ 1
    → AllByRecursion (Differs p.pid) rest × AllByRecursion (Differs p.pid) processes
others_differ p rest processes once =
    let one : count_pid p.pid (p ∷ rest) ≡ 1 + count_pid p.pid rest = ap (λ b. one_if b + count_pid p.pid rest) (itself p.pid) in
    (all_differ p.pid rest (omega (arith, one, once)), all_differ p.pid processes (omega (arith, one, once)))

reaped_out : (seen : List Output) (next : ℕ) (p : Process) (how : How) (xs : List Process) → AllByRecursion (IsOut seen next) xs → AllByRecursion (Differs p.pid) xs
    → AllByRecursion (IsOut (seen ++ output.Reap (pid_of p.pid) p.name how ∷ []) next) xs
reaped_out seen next p how xs out differ =
    all_map (λ (q : Process). IsOut seen next q × Differs p.pid q) (IsOut (seen ++ output.Reap (pid_of p.pid) p.name how ∷ []) next)
    (λ q both. out_further seen next next (output.Reap (pid_of p.pid) p.name how) q (omega arith)
    (ne_eqb p.pid q.pid (λ same. eqb-false q.pid p.pid both.1 (sym same))) both.0)
    xs (all_both (IsOut seen next) (Differs p.pid) xs out differ)

-- a process is reaped, and its service has none then
pub reaped_stands : (rules : Rules) (seen : List Output) (p : Process) (rest : List Process) (kernel : Kernel) (marks now : List Marks) (how : How)
    → ((at : ℕ) (pid : Pid) → (marks_in now at).pid ≡ Some pid → (marks_in marks at).pid ≡ Some pid)
    → (AreNamed rules → Serves rules (p ∷ rest) kernel marks → AllByRecursion (Differs p.pid) rest → AllByRecursion (Differs p.pid) kernel.processes → Serves rules rest kernel now)
    → Stands rules seen (p ∷ rest) kernel marks → Stands rules (seen ++ output.Reap (pid_of p.pid) p.name how ∷ []) rest kernel now
reaped_stands rules seen p rest kernel marks now how fewer serves stands =
    let differ = others_differ p rest kernel.processes (stands.once p.pid) in
    record {
      waiting = reaped_out seen kernel.next_pid p how rest stands.waiting.1 differ.0;
      living = reaped_out seen kernel.next_pid p how kernel.processes stands.living differ.1;
      once = λ pid. (let was = stands.once pid in omega (arith, was));
      past = all_append (IsPast kernel.next_pid) seen (output.Reap (pid_of p.pid) p.name how ∷ []) stands.past (stands.waiting.0.below, tt);
      given = λ at pid is. stands.given at pid (fewer at pid is);
      apart = λ i j pid one other. stands.apart i j pid (fewer i pid one) (fewer j pid other);
      serves = λ named. serves named (stands.serves named) differ.0 differ.1;
    }

-- what is read of a reaping
pub reaped_is_out : (rules : Rules) (seen : List Output) (p : Process) (rest : List Process) (kernel : Kernel) (marks : List Marks)
    → Stands rules seen (p ∷ rest) kernel marks → WasSpawned seen (pid_of p.pid) p.name × AllByRecursion (λ o. reaps (pid_of p.pid) o ≡ false) seen
reaped_is_out rules seen p rest kernel marks stands = (stands.waiting.0.spawned, stands.waiting.0.unreaped)

-- The service of a process that is reaped.

same_number : (p q : ℕ) → Some (pid_of p) ≡ Some (pid_of q) → p ≡ q
same_number p q same = ap (λ (pid : Pid). pid.0) (same_value (pid_of p) (pid_of q) same)

fewer_marks : (marks : List Marks) (place : ℕ) (m : Marks) → m.pid ≡ None → (at : ℕ) (pid : Pid) → (marks_in (slice_set marks place m) at).pid ≡ Some pid
    → (marks_in marks at).pid ≡ Some pid
fewer_marks [] place m none at pid is = is
fewer_marks (x ∷ marks) zero m none zero pid is = absurd (none_is_no_value pid (sym none ∙ is))
fewer_marks (x ∷ marks) zero m none (suc at) pid is = is
fewer_marks (x ∷ marks) (suc place) m none zero pid is = is
fewer_marks (x ∷ marks) (suc place) m none (suc at) pid is = fewer_marks marks place m none at pid is

owned_still : (rules : Rules) (marks : List Marks) (p : Process) (place : ℕ) (m : Marks) → (marks_in marks place).pid ≡ Some (pid_of p.pid)
    → (q : Process) → IsOwned rules marks q → Differs p.pid q → IsOwned rules (slice_set marks place m) q
owned_still rules marks p place m has q owned differ at is =
    by (eqb_tells place at)
  where
    by : (((place == at) ≡ true) × (place ≡ at)) ⊎ (((place == at) ≡ false) × (place ≢ at)) → (marks_in (slice_set marks place m) at).pid ≡ Some (pid_of q.pid)
    by (inl same) =
        absurd (eqb-false q.pid p.pid differ (same_number q.pid p.pid (sym (owned at is) ∙ ap (λ n. (marks_in marks n).pid) (sym same.1) ∙ has)))
    by (inr other) = ap (λ (x : Marks). x.pid) (marks_put marks place at m other.1) ∙ owned at is

all_owned_still : (rules : Rules) (marks : List Marks) (p : Process) (place : ℕ) (m : Marks) → (marks_in marks place).pid ≡ Some (pid_of p.pid)
    → (xs : List Process) → AllByRecursion (IsOwned rules marks) xs → AllByRecursion (Differs p.pid) xs → AllByRecursion (IsOwned rules (slice_set marks place m)) xs
all_owned_still rules marks p place m has xs owned differ =
    all_map (λ (q : Process). IsOwned rules marks q × Differs p.pid q) (IsOwned rules (slice_set marks place m))
    (λ q both. owned_still rules marks p place m has q both.0 both.1) xs (all_both (IsOwned rules marks) (Differs p.pid) xs owned differ)

-- a service keeps its process where another one's was reaped
owns_still : (rules : Rules) (p : Process) (rest processes : List Process) (at : ℕ) (service : ServiceDef) (pid : Pid)
    → (p.name ≡ service.name → ⊥) → Has pid.0 service.name (p ∷ rest) ⊎ Has pid.0 service.name processes → Has pid.0 service.name rest ⊎ Has pid.0 service.name processes
owns_still rules p rest processes at service pid other (inl (inl is)) = absurd (other is.1)
owns_still rules p rest processes at service pid other (inl (inr has)) = inl has
owns_still rules p rest processes at service pid other (inr has) = inr has

pub ended_serves : (rules : Rules) (p : Process) (rest : List Process) (kernel : Kernel) (marks : List Marks) (place : ℕ) (m : Marks) → m.pid ≡ None
    → place_of rules p.name ≡ Some place → AreNamed rules → Serves rules (p ∷ rest) kernel marks
    → AllByRecursion (Differs p.pid) rest → AllByRecursion (Differs p.pid) kernel.processes → Serves rules rest kernel (slice_set marks place m)
ended_serves rules p rest kernel marks place m none is named serves differ_rest differ_living =
    let has = serves.owned_pending.0 place is in
    let found = service_of_place rules p.name place is in
    let within : place < length marks = (let long = serves.sized in let less = within_services rules.services place found.service found.there in omega (arith, long, less)) in
    record {
      sized = marks_length marks place m ∙ serves.sized;
      owned_pending = all_owned_still rules marks p place m has rest serves.owned_pending.1 differ_rest;
      owned_living = all_owned_still rules marks p place m has kernel.processes serves.owned_living differ_living;
      owns = λ at service pid there runs.
          let at_other : p.name ≡ service.name → ⊥ = λ same.
          let here = same_value place at (sym is ∙ ap (place_of rules) same ∙ place_of_service rules service at named there) in
          none_is_no_value pid (sym none ∙ ap (λ (x : Marks). x.pid) (sym (marks_there marks place m within)) ∙ ap (λ n. (marks_in (slice_set marks place m) n).pid) here ∙ runs) in
          owns_still rules p rest kernel.processes at service pid at_other (serves.owns at service pid there (fewer_marks marks place m none at pid runs));
    }

-- a process of no service
pub unnamed_serves : (rules : Rules) (p : Process) (rest : List Process) (kernel : Kernel) (marks : List Marks)
    → place_of rules p.name ≡ None → AreNamed rules → Serves rules (p ∷ rest) kernel marks → Serves rules rest kernel marks
unnamed_serves rules p rest kernel marks is named serves = record {
  sized = serves.sized;
  owned_pending = serves.owned_pending.1;
  owned_living = serves.owned_living;
  owns = λ at service pid there runs.
      let at_other : p.name ≡ service.name → ⊥ = λ same. none_is_no_value at (sym is ∙ ap (place_of rules) same ∙ place_of_service rules service at named there) in
      owns_still rules p rest kernel.processes at service pid at_other (serves.owns at service pid there runs);
}

pub fewer_pids : (marks : List Marks) (place : ℕ) (m : Marks) → m.pid ≡ None → (at : ℕ) (pid : Pid) → (marks_in (slice_set marks place m) at).pid ≡ Some pid
    → (marks_in marks at).pid ≡ Some pid
fewer_pids marks place m none at pid is = fewer_marks marks place m none at pid is

-- The clock moves.

count_parts : (pid : ℕ) (test : Process → Bool) (xs : List Process) → count_pid pid (filter test xs) + count_pid pid (filter (λ x. not (test x)) xs) ≡ count_pid pid xs
count_parts pid test [] = omega arith
count_parts pid test (x ∷ xs) =
    let rest = count_parts pid test xs in
    let one = one_if (x.pid == pid) in
    elim (test x) as
    (λ b. count_pid pid (cond b (x ∷ filter test xs) (filter test xs)) + count_pid pid (cond (not b) (x ∷ filter (λ y. not (test y)) xs) (filter (λ y. not (test y)) xs))
    ≡ one + count_pid pid xs) [
      | true ↦ (let all : (one + count_pid pid (filter test xs)) + count_pid pid (filter (λ y. not (test y)) xs) ≡ one + count_pid pid xs = omega (arith, rest) in all)
      | false ↦ (let all : count_pid pid (filter test xs) + (one + count_pid pid (filter (λ y. not (test y)) xs)) ≡ one + count_pid pid xs = omega (arith, rest) in all)
    ]

has_parts : (pid : ℕ) (name : List ℕ) (test : Process → Bool) (xs : List Process) → Has pid name xs
    → Has pid name (filter test xs) ⊎ Has pid name (filter (λ x. not (test x)) xs)
has_parts pid name test [] has = absurd has
has_parts pid name test (x ∷ xs) has =
    elim (test x) as (λ b. Has pid name (cond b (x ∷ filter test xs) (filter test xs)) ⊎ Has pid name (cond (not b) (x ∷ filter (λ y. not (test y)) xs) (filter (λ y. not (test y)) xs))) [
      | true ↦ first_part has (has_parts pid name test xs)
      | false ↦ second_part has (has_parts pid name test xs)
    ]
  where
    first_part : Has pid name (x ∷ xs) → (Has pid name xs → Has pid name (filter test xs) ⊎ Has pid name (filter (λ y. not (test y)) xs))
        → Has pid name (x ∷ filter test xs) ⊎ Has pid name (filter (λ y. not (test y)) xs)
    first_part (inl is) later = inl (inl is)
    first_part (inr rest) later = elim (later rest) [ inl one ↦ inl (inr one) | inr other ↦ inr other ]

    second_part : Has pid name (x ∷ xs) → (Has pid name xs → Has pid name (filter test xs) ⊎ Has pid name (filter (λ y. not (test y)) xs))
        → Has pid name (filter test xs) ⊎ Has pid name (x ∷ filter (λ y. not (test y)) xs)
    second_part (inl is) later = inr (inl is)
    second_part (inr rest) later = elim (later rest) [ inl one ↦ inl one | inr other ↦ inr (inr other) ]

only_living : (pid : ℕ) (name : List ℕ) (xs : List Process) → Has pid name [] ⊎ Has pid name xs → Has pid name xs
only_living pid name xs (inl never) = absurd never
only_living pid name xs (inr has) = has

-- the processes that end leave together
pub ended_stands : (rules : Rules) (seen : List Output) (kernel : Kernel) (marks : List Marks) (now : ℕ) → Stands rules seen [] kernel marks
    → Stands rules seen (ending_at kernel now) (at_time kernel now) marks
ended_stands rules seen kernel marks now stands = record {
  waiting = all_filter (IsOut seen kernel.next_pid) (IsOut seen kernel.next_pid) (has_ended now) (λ p out is. out) kernel.processes stands.living;
  living = all_filter (IsOut seen kernel.next_pid) (IsOut seen kernel.next_pid) (λ p. not (has_ended now p)) (λ p out is. out) kernel.processes stands.living;
  once = λ pid. (let parts = count_parts pid (has_ended now) kernel.processes in let was = stands.once pid in omega (arith, parts, was));
  past = stands.past;
  given = stands.given;
  apart = stands.apart;
  serves = λ named. (let serves = stands.serves named in record {
    sized = serves.sized;
    owned_pending = all_filter (IsOwned rules marks) (IsOwned rules marks) (has_ended now) (λ p owned is. owned) kernel.processes serves.owned_living;
    owned_living = all_filter (IsOwned rules marks) (IsOwned rules marks) (λ p. not (has_ended now p)) (λ p owned is. owned) kernel.processes serves.owned_living;
    owns = λ at service pid there is.
        has_parts pid.0 service.name (has_ended now) kernel.processes (only_living pid.0 service.name kernel.processes (serves.owns at service pid there is));
  });
}

-- A process exits.

found_all : (P : Process → Type 0) (test : Process → Bool) (xs : List Process) (p : Process) → find test xs ≡ Some p → AllByRecursion P xs → P p
found_all P test [] p is all = absurd (cc)
found_all P test (x ∷ xs) p is all =
    elim (test x) as (λ b. cond b (Some x) (find test xs) ≡ Some p → P p) [
      | true ↦ λ here. (let e : x ≡ p = cc in subst P e all.0)
      | false ↦ λ later. found_all P test xs p later all.1
    ] is

found_counts : (test : Process → Bool) (xs : List Process) (p : Process) → find test xs ≡ Some p → 1 ≤ count_pid p.pid xs
found_counts test [] p is = absurd (cc)
found_counts test (x ∷ xs) p is =
    elim (test x) as (λ b. cond b (Some x) (find test xs) ≡ Some p → 1 ≤ one_if (x.pid == p.pid) + count_pid p.pid xs) [
      | true ↦ λ here.
          let e : x ≡ p = cc in
          let one : one_if (x.pid == p.pid) ≡ 1 = ap (λ (q : Process). one_if (q.pid == p.pid)) e ∙ ap (λ b. one_if b) (itself p.pid) in
          omega (arith, one)
      | false ↦ λ later. (let rest = found_counts test xs p later in omega (arith, rest))
    ] is

has_counts : (pid : ℕ) (name : List ℕ) (xs : List Process) → Has pid name xs → 1 ≤ count_pid pid xs
has_counts pid name [] has = absurd has
has_counts pid name (x ∷ xs) (inl is) =
    let one : one_if (x.pid == pid) ≡ 1 = ap (λ b. one_if b) (eq-eqb x.pid pid is.0) in omega (arith, one)
has_counts pid name (x ∷ xs) (inr has) = (let rest = has_counts pid name xs has in omega (arith, rest))

-- where pids are given out once, a process with the pid of the found one is that one
found_name : (test : Process → Bool) (xs : List Process) (p : Process) (name : List ℕ) → find test xs ≡ Some p → count_pid p.pid xs ≤ 1 → Has p.pid name xs → name ≡ p.name
found_name test [] p name is once has = absurd has
found_name test (x ∷ xs) p name is once (inl here) =
    elim (test x) as (λ b. cond b (Some x) (find test xs) ≡ Some p → name ≡ p.name) [
      | true ↦ λ found. (let e : x ≡ p = cc in sym here.1 ∙ ap (λ (q : Process). q.name) e)
      | false ↦ λ later.
          let one : one_if (x.pid == p.pid) ≡ 1 = ap (λ b. one_if b) (eq-eqb x.pid p.pid here.0) in
          let more = found_counts test xs p later in
          absurd (omega (arith, one, more, once))
    ] is
found_name test (x ∷ xs) p name is once (inr has) =
    let more = has_counts p.pid name xs has in
    elim (test x) as (λ b. cond b (Some x) (find test xs) ≡ Some p → name ≡ p.name) [
      | true ↦ λ found.
          let e : x ≡ p = cc in
          let one : one_if (x.pid == p.pid) ≡ 1 = ap (λ (q : Process). one_if (q.pid == p.pid)) e ∙ ap (λ b. one_if b) (itself p.pid) in
          absurd (omega (arith, one, more, once))
      | false ↦ λ later. found_name test xs p name later (omega (arith, once)) has
    ] is

count_fewer : (pid : ℕ) (test : Process → Bool) (xs : List Process) → count_pid pid (filter test xs) ≤ count_pid pid xs
count_fewer pid test xs = (let parts = count_parts pid test xs in omega (arith, parts))

none_of_pid : (pid : ℕ) (xs : List Process) → count_pid pid (filter (λ x. not (x.pid == pid)) xs) ≡ 0
none_of_pid pid [] = refl
none_of_pid pid (x ∷ xs) =
    let rest = none_of_pid pid xs in
    elim (x.pid == pid) as
    (λ b. (x.pid == pid) ≡ b → count_pid pid (cond (not b) (x ∷ filter (λ y. not (y.pid == pid)) xs) (filter (λ y. not (y.pid == pid)) xs)) ≡ 0) [
      | true ↦ λ same. rest
      | false ↦ λ differ. ap (λ b. one_if b + count_pid pid (filter (λ y. not (y.pid == pid)) xs)) differ ∙ omega (arith, rest)
    ] refl

once_left : (pid : ℕ) (p : Process) (xs : List Process) → count_pid pid [] + count_pid pid xs ≤ 1
    → count_pid pid (p ∷ []) + count_pid pid (filter (λ x. not (x.pid == p.pid)) xs) ≤ 1
once_left pid p xs once =
    let fewer = count_fewer pid (λ (x : Process). not (x.pid == p.pid)) xs in
    elim (p.pid == pid) as (λ b. (p.pid == pid) ≡ b → (one_if b + 0) + count_pid pid (filter (λ x. not (x.pid == p.pid)) xs) ≤ 1) [
      | true ↦ λ same.
          let e : p.pid ≡ pid = eqb-true p.pid pid same in
          let none : count_pid pid (filter (λ x. not (x.pid == p.pid)) xs) ≡ 0 = subst (λ n. count_pid n (filter (λ x. not (x.pid == p.pid)) xs) ≡ 0) e (none_of_pid p.pid xs) in
          omega (arith, none)
      | false ↦ λ differ. omega (arith, fewer, once)
    ] refl

has_left : (pid : ℕ) (name : List ℕ) (test : Process → Bool) (p : Process) (xs : List Process) → find test xs ≡ Some p → count_pid p.pid xs ≤ 1 → Has pid name xs
    → Has pid name (p ∷ []) ⊎ Has pid name (filter (λ x. not (x.pid == p.pid)) xs)
has_left pid name test p xs is once has =
    by (eqb_tells p.pid pid)
  where
    by : (((p.pid == pid) ≡ true) × (p.pid ≡ pid)) ⊎ (((p.pid == pid) ≡ false) × (p.pid ≢ pid)) → Has pid name (p ∷ []) ⊎ Has pid name (filter (λ x. not (x.pid == p.pid)) xs)
    by (inl same) = inl (inl (same.1, sym (found_name test xs p name is once (subst (λ n. Has n name xs) (sym same.1) has))))
    by (inr differ) = inr (kept xs has)
      where
        kept : (ys : List Process) → Has pid name ys → Has pid name (filter (λ x. not (x.pid == p.pid)) ys)
        kept [] never = never
        kept (y ∷ ys) (inl here) =
            let other : (y.pid == p.pid) ≡ false = ne_eqb y.pid p.pid (λ same. differ.1 (sym same ∙ here.0)) in
            subst (λ b. Has pid name (cond (not b) (y ∷ filter (λ x. not (x.pid == p.pid)) ys) (filter (λ x. not (x.pid == p.pid)) ys))) (sym other) (inl here)
        kept (y ∷ ys) (inr later) =
            elim (y.pid == p.pid) as (λ b. Has pid name (cond (not b) (y ∷ filter (λ x. not (x.pid == p.pid)) ys) (filter (λ x. not (x.pid == p.pid)) ys))) [
              | true ↦ kept ys later
              | false ↦ inr (kept ys later)
            ]

-- the first process of a name leaves
pub exited_stands : (rules : Rules) (seen : List Output) (kernel : Kernel) (marks : List Marks) (name : List ℕ) (p : Process) → first_named kernel name ≡ Some p
    → Stands rules seen [] kernel marks → Stands rules seen (p ∷ []) (without kernel p.pid) marks
exited_stands rules seen kernel marks name p is stands = record {
  waiting = (found_all (IsOut seen kernel.next_pid) (λ (q : Process). bytes_eq q.name name) kernel.processes p is stands.living, tt);
  living = all_filter (IsOut seen kernel.next_pid) (IsOut seen kernel.next_pid) (λ (q : Process). not (q.pid == p.pid)) (λ q out passes. out) kernel.processes stands.living;
  once = λ pid. once_left pid p kernel.processes (stands.once pid);
  past = stands.past;
  given = stands.given;
  apart = stands.apart;
  serves = λ named. (let serves = stands.serves named in record {
    sized = serves.sized;
    owned_pending = (found_all (IsOwned rules marks) (λ (q : Process). bytes_eq q.name name) kernel.processes p is serves.owned_living, tt);
    owned_living = all_filter (IsOwned rules marks) (IsOwned rules marks) (λ (q : Process). not (q.pid == p.pid)) (λ q owned passes. owned) kernel.processes serves.owned_living;
    owns = λ at service pid there runs.
        has_left pid.0 service.name (λ (q : Process). bytes_eq q.name name) p kernel.processes is (let was = stands.once p.pid in omega (arith, was))
        (only_living pid.0 service.name kernel.processes (serves.owns at service pid there runs));
  });
}
