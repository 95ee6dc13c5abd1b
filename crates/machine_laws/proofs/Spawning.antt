-- A service's process is spawned, and a program's.
use Rattle.std.proofs.Common.{◌≡◌, ◌≢◌, ◌⊎◌, inl, inr, ℕ, zero, suc, ◌+◌, ◌<◌, true, false, ◌==◌, List, [], ◌∷◌, ◌++◌, length, slice_set, Option, Some, None, codes, refl, sym, ap, ◌∙◌, arith, subst}
use Rattle.std.proofs.lemmas.Bool.Decides.{eqb_tells}
use Rattle.init_base.specs.declared.units.Pid.{Pid}
use Rattle.init_machine.specs.Kernel.{Kernel, Process, with_process}
use Rattle.init_machine.specs.Services.{service_at, pid_of}
use Rattle.init_machine.specs.State.{Rules}
use Rattle.init_machine.specs.declared.output.Output.{Output}
use Rattle.init_machine.specs.declared.output.Output.TheVariants as output
use Rattle.init_machine.specs.declared.service.Marks.{Marks}
use Rattle.init_machine.specs.declared.service.ServiceDef.{ServiceDef}
use Rattle.machine_laws.proofs.Members.{all_map, all_append}
use Rattle.machine_laws.proofs.Options.{none_is_no_value, same_value}
use Rattle.machine_laws.proofs.Places.{AreNamed, marks_in, marks_put, marks_there, marks_length, place_of_service, within_services, no_service_is_exec}
use Rattle.machine_laws.proofs.Standing.{Has, IsOwned, Serves, Stands, new_process, has-append_left, has_last, spawned_stands}

number_of : (p q : Pid) → Some p ≡ Some q → p.0 ≡ q.0
number_of p q same = ap (λ (pid : Pid). pid.0) (same_value p q same)

-- the marks at a place are those that were put there, or the old ones
marks_after : (marks : List Marks) (at : ℕ) (m : Marks) (j : ℕ) (pid : Pid) → (marks_in (slice_set marks at m) j).pid ≡ Some pid
    → ((j ≡ at) × (m.pid ≡ Some pid)) ⊎ ((marks_in marks j).pid ≡ Some pid)
marks_after [] at m j pid is = inr is
marks_after (x ∷ marks) zero m zero pid is = inl (refl, is)
marks_after (x ∷ marks) zero m (suc j) pid is = inr is
marks_after (x ∷ marks) (suc at) m zero pid is = inr is
marks_after (x ∷ marks) (suc at) m (suc j) pid is =
    elim (marks_after marks at m j pid is) [ inl here ↦ inl (ap suc here.0, here.1) | inr old ↦ inr old ]

given_by : (next : ℕ) (m was : Option Pid) (j at : ℕ) (pid : Pid) → m ≡ Some (pid_of next) → (was ≡ Some pid → pid.0 < next)
    → ((j ≡ at) × (m ≡ Some pid)) ⊎ (was ≡ Some pid) → pid.0 < next + 1
given_by next m was j at pid has given (inl here) = (let e = number_of (pid_of next) pid (sym has ∙ here.1) in omega (arith, e))
given_by next m was j at pid has given (inr old) = (let less = given old in omega (arith, less))

apart_by : (next : ℕ) (m one other : Option Pid) (i j at : ℕ) (pid : Pid) → m ≡ Some (pid_of next) → (one ≡ Some pid → pid.0 < next) → (other ≡ Some pid → pid.0 < next)
    → (one ≡ Some pid → other ≡ Some pid → i ≡ j)
    → ((i ≡ at) × (m ≡ Some pid)) ⊎ (one ≡ Some pid) → ((j ≡ at) × (m ≡ Some pid)) ⊎ (other ≡ Some pid) → i ≡ j
apart_by next m one other i j at pid has given_one given_other apart (inl here) (inl there) = here.0 ∙ sym there.0
apart_by next m one other i j at pid has given_one given_other apart (inl here) (inr old) =
    (let e = number_of (pid_of next) pid (sym has ∙ here.1) in let less = given_other old in absurd (omega (arith, e, less)))
apart_by next m one other i j at pid has given_one given_other apart (inr old) (inl there) =
    (let e = number_of (pid_of next) pid (sym has ∙ there.1) in let less = given_one old in absurd (omega (arith, e, less)))
apart_by next m one other i j at pid has given_one given_other apart (inr old) (inr older) = apart old older

has_more : (pid : ℕ) (name : List ℕ) (xs ys : List Process) (new : Process) → Has pid name xs ⊎ Has pid name ys → Has pid name xs ⊎ Has pid name (ys ++ new ∷ [])
has_more pid name xs ys new (inl has) = inl has
has_more pid name xs ys new (inr has) = inr (has-append_left pid name ys (new ∷ []) has)

-- the processes of other services
owned_further : (rules : Rules) (marks : List Marks) (at : ℕ) (m : Marks) → (marks_in marks at).pid ≡ None → (p : Process) → IsOwned rules marks p
    → IsOwned rules (slice_set marks at m) p
owned_further rules marks at m alone p owned j is =
    by (eqb_tells at j)
  where
    by : (((at == j) ≡ true) × (at ≡ j)) ⊎ (((at == j) ≡ false) × (at ≢ j)) → (marks_in (slice_set marks at m) j).pid ≡ Some (pid_of p.pid)
    by (inl same) = absurd (none_is_no_value (pid_of p.pid) (sym alone ∙ ap (λ n. (marks_in marks n).pid) same.1 ∙ owned j is))
    by (inr other) = ap (λ (x : Marks). x.pid) (marks_put marks at j m other.1) ∙ owned j is

service_spawned : (rules : Rules) (pending : List Process) (kernel : Kernel) (marks : List Marks) (at : ℕ) (m : Marks) (service : ServiceDef)
    → service_at rules at ≡ Some service → (marks_in marks at).pid ≡ None → m.pid ≡ Some (pid_of kernel.next_pid) → AreNamed rules
    → Serves rules pending kernel marks → Serves rules pending (with_process rules.plans kernel service.name service.path) (slice_set marks at m)
service_spawned rules pending kernel marks at m service here alone has named serves =
    let now = slice_set marks at m in
    let new = new_process rules kernel service.name service.path in
    let within : at < length marks = (let long = serves.sized in let less = within_services rules.services at service here in omega (arith, long, less)) in
    let own : IsOwned rules now new =
    λ j is. ap (λ n. (marks_in now n).pid) (same_value j at (sym is ∙ place_of_service rules service at named here))
    ∙ ap (λ (x : Marks). x.pid) (marks_there marks at m within) ∙ has in
    record {
      sized = marks_length marks at m ∙ serves.sized;
      owned_pending = all_map (IsOwned rules marks) (IsOwned rules now) (owned_further rules marks at m alone) pending serves.owned_pending;
      owned_living = all_append (IsOwned rules now) kernel.processes (new ∷ [])
          (all_map (IsOwned rules marks) (IsOwned rules now) (owned_further rules marks at m alone) kernel.processes serves.owned_living) (own, tt);
      owns = λ j other pid there runs. owned_by other j pid there (marks_after marks at m j pid runs);
    }
  where
    owned_by : (other : ServiceDef) (j : ℕ) (pid : Pid) → service_at rules j ≡ Some other → ((j ≡ at) × (m.pid ≡ Some pid)) ⊎ ((marks_in marks j).pid ≡ Some pid)
        → Has pid.0 other.name pending ⊎ Has pid.0 other.name (kernel.processes ++ new_process rules kernel service.name service.path ∷ [])
    owned_by other j pid there (inl new) =
        let name : service.name ≡ other.name = ap (λ (s : ServiceDef). s.name) (same_value service other (sym here ∙ ap (service_at rules) (sym new.0) ∙ there)) in
        let number : kernel.next_pid ≡ pid.0 = number_of (pid_of kernel.next_pid) pid (sym has ∙ new.1) in
        let last : Has kernel.next_pid service.name (kernel.processes ++ new_process rules kernel service.name service.path ∷ []) =
        has_last (new_process rules kernel service.name service.path) kernel.processes in
        inr (subst (λ n. Has n other.name (kernel.processes ++ new_process rules kernel service.name service.path ∷ [])) number
        (subst (λ text. Has kernel.next_pid text (kernel.processes ++ new_process rules kernel service.name service.path ∷ [])) name last))
    owned_by other j pid there (inr old) =
        has_more pid.0 other.name pending kernel.processes (new_process rules kernel service.name service.path) (serves.owns j other pid there old)

-- the service at a place has the next process
pub service_stands : (rules : Rules) (seen : List Output) (pending : List Process) (kernel : Kernel) (marks : List Marks) (at : ℕ) (m : Marks) (service : ServiceDef)
    → service_at rules at ≡ Some service → (marks_in marks at).pid ≡ None → m.pid ≡ Some (pid_of kernel.next_pid) → Stands rules seen pending kernel marks
    → Stands rules (seen ++ output.Spawn (pid_of kernel.next_pid) service.name service.path ∷ []) pending
    (with_process rules.plans kernel service.name service.path) (slice_set marks at m)
service_stands rules seen pending kernel marks at m service here alone has stands =
    spawned_stands rules seen pending kernel marks (slice_set marks at m) service.name service.path
    (λ j pid is. given_by kernel.next_pid m.pid (marks_in marks j).pid j at pid has (stands.given j pid) (marks_after marks at m j pid is))
    (λ i j pid one other. apart_by kernel.next_pid m.pid (marks_in marks i).pid (marks_in marks j).pid i j at pid has (stands.given i pid) (stands.given j pid)
    (stands.apart i j pid) (marks_after marks at m i pid one) (marks_after marks at m j pid other))
    (λ named serves. service_spawned rules pending kernel marks at m service here alone has named serves) stands

-- a program has the next process
pub program_stands : (rules : Rules) (seen : List Output) (pending : List Process) (kernel : Kernel) (marks : List Marks) (path : List ℕ) → Stands rules seen pending kernel marks
    → Stands rules (seen ++ output.Spawn (pid_of kernel.next_pid) (codes "*exec") path ∷ []) pending (with_process rules.plans kernel (codes "*exec") path) marks
program_stands rules seen pending kernel marks path stands =
    let new = new_process rules kernel (codes "*exec") path in
    spawned_stands rules seen pending kernel marks marks (codes "*exec") path
    (λ at pid is. let less = stands.given at pid is in omega (arith, less)) stands.apart
    (λ named serves. record {
      sized = serves.sized;
      owned_pending = serves.owned_pending;
      owned_living = all_append (IsOwned rules marks) kernel.processes (new ∷ []) serves.owned_living ((λ at is. absurd (no_service_is_exec rules at named is)), tt);
      owns = λ at service pid there runs. has_more pid.0 service.name pending kernel.processes new (serves.owns at service pid there runs);
    }) stands
