use Rattle.std.proofs.Common.{◌≡◌, ◌<◌, ℕ, All, true, false, length, sym, ap, ◌∙◌, subst, arith}
use Rattle.init_machine.specs.State.{State}
use Rattle.property_area.specs.Seats.{Seated}
use Rattle.property_service.proofs.Closing.{first_lacks, if_ok, none_lacks, on_each, on_ok, own_parts}
use Rattle.property_service.specs.Ending.{HasItsPart, HasPart, IsFirstMissing, IsMissing, taking_all}
use Rattle.property_service.specs.Service.{Agrees, ServiceView, has_seat, recorded_service, state_after}
use Rattle.property_service.specs.declared.ending.Closed.{Closed}
use Rattle.property_service.proofs.desk.Desk.close.Goals as goal

pub close_all-requires : goal.close_all-requires
close_all-requires g c =
    let h = c.self.invariant (ap (λ (t : ServiceView). t.spent) c.self.view_is ∙ c.requires.ready) in
    let store = c.into_ended.ensures.store in
    let few = h.few in
    let wide = h.wide in
    record {
      area = λ k d below. c.requires.area k d below ∙ sym (ap (λ (x : Seated). x.table) store ∙ h.table);
      seated = λ who. h.seated who ∙ sym (ap (λ (x : Seated). has_seat x.view who) store);
      few = omega arith;
    }

pub returns : goal.returns
returns g c =
    let v = c.self.inside.core.store.view in
    let readers = c.args.readers in
    let seats = c.self.inside.seats in
    let self = c.args.self in
    let spent = ap (λ (t : ServiceView). t.spent) c.self.view_is ∙ c.requires.ready in
    let h = c.self.invariant spent in
    let store = c.into_ended.ensures.store in
    let is : recorded_service v false ≡ self = ap (recorded_service v) (sym spent) ∙ c.self.view_is in
    let ended = c.into_ended.result in
    let closed = c.close_all.result in
    let P : Closed → Type 0 = λ x. (x.saved ≡ ended.saved) × (x.saving ≡ ended.saving) × (x.policy ≡ ended.policy) × (x.seat.table ≡ ended.store.table)
    × (x.seat.view ≡ taking_all ended.store.view readers) in
    record {
      seat = if_ok P (λ (x : Closed). (x.seat.table ≡ g.N.AreaName.area) × (x.seat.view ≡ taking_all self.seat readers)) closed
          (λ x holds. (
            holds.3 ∙ ap (λ (y : Seated). y.table) store ∙ h.table,
            holds.4 ∙ ap (λ (y : Seated). taking_all y.view readers) store ∙ ap (λ (t : ServiceView). taking_all t.seat readers) is,
          ))
          c.close_all.ensures.closed;
      saved = if_ok P (λ (x : Closed). (x.saved ≡ (state_after self).saved) × (x.saving ≡ (state_after self).saving)) closed
          (λ x holds. (
            holds.0 ∙ c.into_ended.ensures.saved ∙ ap (λ (t : State). t.saved) h.state ∙ ap (λ (t : ServiceView). (state_after t).saved) is,
            holds.1 ∙ c.into_ended.ensures.saving ∙ ap (λ (t : State). t.saving) h.state ∙ ap (λ (t : ServiceView). (state_after t).saving) is,
          ))
          c.close_all.ensures.closed;
      policy = if_ok P (λ (x : Closed). x.policy ≡ self.opening.policy) closed
          (λ x holds. holds.2 ∙ c.into_ended.ensures.policy ∙ h.policy ∙ ap (λ (t : ServiceView). t.opening.policy) is) c.close_all.ensures.closed;
      agrees = on_each (Agrees self) closed (subst Agrees is h.agrees);
      parts = subst (λ (t : ServiceView). All (HasItsPart t) readers) is
          (own_parts v readers seats h.agrees h.wide (subst (λ (x : Seated). All (HasPart x.view) readers) store c.close_all.ensures.parts));
      whole = on_ok ((q : ℕ) → has_seat (taking_all ended.store.view readers) q ≡ false) ((q : ℕ) → ¬ IsMissing self readers q) closed
          (λ free. subst (λ (t : ServiceView). (q : ℕ) → ¬ IsMissing t readers q) is
          (none_lacks v readers seats h.agrees h.wide (λ q. ap (λ (x : Seated). has_seat (taking_all x.view readers) q) (sym store) ∙ free q)))
          c.close_all.ensures.nobody;
      missing = λ who refused.
          subst (λ (t : ServiceView). IsFirstMissing t readers who) is
          (first_lacks v readers seats h.agrees h.wide who
          (subst (λ (x : Seated). (has_seat (taking_all x.view readers) who.0 ≡ true)
          × ((q : ℕ) → q < who.0 → has_seat (taking_all x.view readers) q ≡ false) × (who.0 < length seats)) store (c.close_all.ensures.missing who refused)));
      spent = c.close_all.ensures.spent;
    }
