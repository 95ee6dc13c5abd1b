-- The end of a service's process, from what its parts do.
use Rattle.std.proofs.Common.{◌≡◌, ℕ, Bool, true, false, cond, nat_lt, List, [], ◌∷◌, ◌++◌, Option, Some, None, refl, sym, ap, ◌∙◌, subst, append-nil, codes}
use Rattle.std.specs.List.{slice_get}
use Rattle.std.specs.Option.{is_some}
use Rattle.init_machine.specs.Changes.{change, nothing}
use Rattle.init_machine.specs.Marks.{service_step}
use Rattle.init_machine.specs.Matches.{or_empty}
use Rattle.init_machine.specs.Props.{Props, value_in}
use Rattle.init_machine.specs.Reaping.{restarting, reboot, by_count, exited_by, exited, counted, is_boot_completed, exits_at, with_exits, follow_end, end_service, end_named, release_child, awaits_child, reap}
use Rattle.init_machine.specs.Services.{tell, service_at, place_of, marks_at, with_marks, pid_of}
use Rattle.init_machine.specs.Setting.{released_lines, still_waits}
use Rattle.init_machine.specs.State.{Rules, Exits}
use Rattle.init_machine.specs.declared.output.How.{How}
use Rattle.init_machine.specs.declared.output.Output.{Output}
use Rattle.init_machine.specs.declared.output.Output.TheVariants as output
use Rattle.init_machine.specs.declared.service.Critical.{Critical}
use Rattle.init_machine.specs.declared.service.Move.{Move}
use Rattle.init_machine.specs.declared.service.Move.TheVariants as move
use Rattle.init_machine.specs.declared.service.Op.TheVariants as op
use Rattle.init_machine.specs.declared.service.ServiceDef.{ServiceDef}
use Rattle.init_machine.specs.declared.waiting.Waiting.{Waiting}
use Rattle.init_machine.specs.History.{sets_in}
use Rattle.outputs.specs.Joins.{Joins}
use Rattle.machine_parts.specs.Parts.{Does, state_of, rules_of}
use Rattle.machine_parts.specs.declared.parts.Parts.{Parts}
use Rattle.services.specs.Services.{ServicesView, with_op, move_of, with_exit, exit_is_fatal, is_fatal, counted_exits, exits_after, exits_of, critical_of}
use Rattle.init_core.specs.Completed.{is_completed}
use Rattle.init_core.specs.Reaped.{target_of, target_by}
use Rattle.machine_parts.proofs.Doing.{does_plain, does_both, does_then, does_no_more}

-- what a service that is critical, or isn't, reboots to
record IsCritical (service : ServiceDef) (target : List ℕ) : Type 0 where
  critical : Critical
  is : service.critical ≡ Some critical
  target_is : target ≡ critical.target

critical_by : (critical : Option Critical) (target : List ℕ) → Some target ≡ target_by critical → (found : Critical) × (critical ≡ Some found) × (target ≡ found.target)
critical_by None target is = absurd (cc)
critical_by (Some critical) target is = (critical, refl, cc)

not_critical_by : (critical : Option Critical) → None ≡ target_by critical → critical ≡ None
not_critical_by None is = refl
not_critical_by (Some critical) is = absurd (cc)

is_critical : (services : List ServiceDef) (at : ℕ) (service : ServiceDef) (target : List ℕ) → slice_get services at ≡ Some service → Some target ≡ target_of (slice_get services at)
    → IsCritical service target
is_critical services at service target found is =
    let by = critical_by service.critical target (is ∙ ap target_of found) in
    record { critical = by.0; is = by.1; target_is = by.2 }

pub not_critical : (services : List ServiceDef) (at : ℕ) (service : ServiceDef) → slice_get services at ≡ Some service → None ≡ target_of (slice_get services at)
    → service.critical ≡ None
not_critical services at service found is = not_critical_by service.critical (is ∙ ap target_of found)

module _ {S O : Type 0} {meaning : S → Props} {told : S → Option (List (List ℕ × List ℕ))} {adds : O → O → List Output → Type 0} (joins : Joins adds) where
  -- a service that isn't critical is restarting
  pub exits_plain : (old new : Parts S O) (at : ℕ) (service : ServiceDef) → service.critical ≡ None → Does meaning told adds old new (restarting (rules_of old) service (state_of meaning old))
      → Does meaning told adds old new (exited (rules_of old) service at (state_of meaning old))
  unfolding exited
  exits_plain old new at service none done =
      subst (λ (critical : Option Critical). Does meaning told adds old new (exited_by (rules_of old) service at critical (state_of meaning old))) (sym none) done

  -- the exit of a critical service was counted
  exits_counted : (old : Parts S O) (store : S) (services : ServicesView) (at : ℕ) (service : ServiceDef) (critical : Critical) (now : ℕ) (booted : Bool)
      → slice_get old.services.defs at ≡ Some service → service.critical ≡ Some critical
      → meaning store ≡ meaning old.store → told store ≡ told old.store
      → now ≡ old.kernel.kernel.clock → booted ≡ is_completed (or_empty (value_in (meaning old.store) (codes "sys.boot_completed")))
      → services ≡ with_exit old.services at now booted
      → (let s = state_of meaning old in
      let exits = counted (is_boot_completed s) s.kernel.clock critical.window.0 (exits_at s at) in
      Does meaning told adds old (record old { store = store; services = services }) (nothing (with_exits s at exits)) × (counted_exits old.services at now booted ≡ exits))
  exits_counted old store services at service critical now booted found is same tells timed completed counts =
      let s = state_of meaning old in
      let exits : Exits = counted (is_boot_completed s) s.kernel.clock critical.window.0 (exits_at s at) in
      let exits_is : counted_exits old.services at now booted ≡ exits =
      ap (λ (c : Option Critical). exits_after c booted now (exits_of old.services at)) (ap critical_of found ∙ is)
      ∙ ap (λ (n : ℕ). counted booted n critical.window.0 (exits_of old.services at)) timed
      ∙ ap (λ (b : Bool). counted b s.kernel.clock critical.window.0 (exits_of old.services at)) completed in (
        does_plain joins {old = old} {new = record old { store = store; services = services }}
            ((λ i. record s { props = same i; marks = (counts i).marks; exits = (counts i).exits }) ∙ ap (with_exits s at) exits_is)
            (joins.none old.outputs) tells
            (λ i. let rules : Rules = record { services = (counts i).defs; plans = old.kernel.plans; policy = old.policy } in rules) refl refl,
        exits_is,
      )

  -- a critical service, after the exit was counted
  pub exits_critical : (old new : Parts S O) (store : S) (services : ServicesView) (at : ℕ) (service : ServiceDef) (target : List ℕ) (now : ℕ) (booted fatal : Bool)
      → slice_get old.services.defs at ≡ Some service → Some target ≡ target_of (slice_get old.services.defs at)
      → meaning store ≡ meaning old.store → told store ≡ told old.store
      → now ≡ old.kernel.kernel.clock → booted ≡ is_completed (or_empty (value_in (meaning old.store) (codes "sys.boot_completed")))
      → services ≡ with_exit old.services at now booted → fatal ≡ exit_is_fatal old.services at now booted
      → (let mid : Parts S O = record old { store = store; services = services } in
      Does meaning told adds mid new (cond fatal (reboot target (state_of meaning mid)) (restarting (rules_of mid) service (state_of meaning mid)))
      → Does meaning told adds old new (exited (rules_of old) service at (state_of meaning old)))
  unfolding exited
  exits_critical old new store services at service target now booted fatal found aims same tells timed completed counts ends second =
      let is = is_critical old.services.defs at service target found aims in
      let critical = is.critical in
      let mid : Parts S O = record old { store = store; services = services } in
      let s = state_of meaning old in
      let exits : Exits = counted (is_boot_completed s) s.kernel.clock critical.window.0 (exits_at s at) in
      let first = exits_counted old store services at service critical now booted found is.is same tells timed completed counts in
      let fatal_is : fatal ≡ nat_lt 4 exits.count =
      ends ∙ ap (λ (c : Option Critical). is_fatal c (counted_exits old.services at now booted)) (ap critical_of found ∙ is.is)
      ∙ ap (λ (e : Exits). nat_lt 4 e.count) first.1 in
      let counted_second : Does meaning told adds mid new (by_count (rules_of mid) service critical.target exits (state_of meaning mid)) =
      subst (λ (b : Bool). Does meaning told adds mid new (cond b (reboot critical.target (state_of meaning mid)) (restarting (rules_of mid) service (state_of meaning mid)))) fatal_is
      (subst (λ (t : List ℕ). Does meaning told adds mid new (cond fatal (reboot t (state_of meaning mid)) (restarting (rules_of mid) service (state_of meaning mid)))) is.target_is second) in
      subst (λ (c : Option Critical). Does meaning told adds old new (exited_by (rules_of old) service at c s)) (sym is.is)
      (does_both joins (λ rules now. by_count rules service critical.target exits now) first.0 counted_second)

  -- the marks of a service whose process has ended, and what follows
  pub ends : (old new : Parts S O) (services : ServicesView) (at : ℕ) (service : ServiceDef) (todo : Move)
      → Some service ≡ slice_get old.services.defs at → services ≡ with_op old.services at op.Reaped → todo ≡ move_of old.services at op.Reaped
      → (let mid : Parts S O = record old { services = services } in
      Does meaning told adds mid new (follow_end (rules_of mid) service at todo (state_of meaning mid))
      → Does meaning told adds old new (end_service (rules_of old) at (service_at (rules_of old) at) (state_of meaning old)))
  ends old new services at service todo found marked follows second =
      let mid : Parts S O = record old { services = services } in
      let s = state_of meaning old in
      let answer = service_step op.Reaped (marks_at s at) in
      let first : Does meaning told adds old mid (nothing (with_marks s at answer.marks)) =
      does_plain joins {old = old} {new = mid} (λ i. record s { marks = (marked i).marks; exits = (marked i).exits }) (joins.none old.outputs) refl
      (λ i. let rules : Rules = record { services = (marked i).defs; plans = old.kernel.plans; policy = old.policy } in rules) refl refl in
      subst (λ (o : Option ServiceDef). Does meaning told adds old new (end_service (rules_of old) at o s)) found
      (does_both joins (λ rules now. follow_end rules service at answer.todo now) first
      (subst (λ (m : Move). Does meaning told adds mid new (follow_end (rules_of mid) service at m (state_of meaning mid))) follows second))

  pub ends_stopped : (mid new : Parts S O) (at : ℕ) (service : ServiceDef) (name : List ℕ) → name ≡ service.name
      → Does meaning told adds mid new (tell (rules_of mid) name (codes "stopped") (state_of meaning mid)) → Does meaning told adds mid new (follow_end (rules_of mid) service at move.Stopped (state_of meaning mid))
  ends_stopped mid new at service name named done = subst (λ (n : List ℕ). Does meaning told adds mid new (tell (rules_of mid) n (codes "stopped") (state_of meaning mid))) named done

  pub ends_exited : (mid new : Parts S O) (at : ℕ) (service : ServiceDef)
      → Does meaning told adds mid new (exited (rules_of mid) service at (state_of meaning mid)) → Does meaning told adds mid new (follow_end (rules_of mid) service at move.Exited (state_of meaning mid))
  ends_exited mid new at service done = done

  -- a wait for a child has ended, or not
  pub releases : (old : Parts S O) (waits : Option Waiting) (outputs : O) (ends : Bool) (pid : ℕ) → ends ≡ awaits_child old.waits pid
      → waits ≡ still_waits ends old.waits → adds old.outputs outputs (released_lines ends)
      → Does meaning told adds old (record old { waits = waits; outputs = outputs }) (release_child pid (state_of meaning old))
  releases old waits outputs ends pid is waits_is lines =
      does_plain joins (λ i. record (state_of meaning old) { waits = (waits_is ∙ ap (λ (b : Bool). still_waits b old.waits) is) i })
      (subst (λ (b : Bool). adds old.outputs outputs (released_lines b)) is lines) refl refl refl (no_sets (awaits_child old.waits pid))
    where
      no_sets : (b : Bool) → sets_in (released_lines b) ≡ []
      no_sets true = refl
      no_sets false = refl

  -- the line of a reaping
  reap_line : (old : Parts S O) (outputs : O) (pid : ℕ) (name : List ℕ) (how : How) → adds old.outputs outputs (output.Reap (pid_of pid) name how ∷ [])
      → Does meaning told adds old (record old { outputs = outputs }) (change (state_of meaning old) (output.Reap (pid_of pid) name how ∷ []))
  reap_line old outputs pid name how line = does_plain joins refl line refl refl refl refl

  -- a service was told, and then a wait may end
  pub reaps_on : (old mid new : Parts S O) (outputs : O) (pid : ℕ) (name : List ℕ) (how : How) → adds old.outputs outputs (output.Reap (pid_of pid) name how ∷ [])
      → Does meaning told adds (record old { outputs = outputs }) mid (end_named (rules_of old) (place_of (rules_of old) name) (state_of meaning old)) → false ≡ is_some mid.over
      → Does meaning told adds mid new (release_child pid (state_of meaning mid))
      → Does meaning told adds old new (reap (rules_of old) pid name how (state_of meaning old))
  unfolding reap
  reaps_on old mid new outputs pid name how line ended up second =
      does_then joins (λ rules now. release_child pid now)
      (does_both joins (λ rules now. end_named rules (place_of rules name) now) (reap_line old outputs pid name how line) ended)
      (sym up) second

  pub reaps_over : (old new : Parts S O) (outputs : O) (pid : ℕ) (name : List ℕ) (how : How) → adds old.outputs outputs (output.Reap (pid_of pid) name how ∷ [])
      → Does meaning told adds (record old { outputs = outputs }) new (end_named (rules_of old) (place_of (rules_of old) name) (state_of meaning old)) → true ≡ is_some new.over
      → Does meaning told adds old new (reap (rules_of old) pid name how (state_of meaning old))
  unfolding reap
  reaps_over old new outputs pid name how line ended over =
      does_no_more joins (release_child pid)
      (does_both joins (λ rules now. end_named rules (place_of rules name) now) (reap_line old outputs pid name how line) ended)
      (sym over)
