use Rattle.std.proofs.Common.{◌≡◌, ◌<◌, false, [], Some, length, refl, ap, ◌∙◌, arith}
use Rattle.init_machine.specs.State.{State}
use Rattle.property_area.specs.Readers.{handed, handing}
use Rattle.property_area.specs.Seats.{Seated, store_of}
use Rattle.property_area.specs.declared.view.AreaView.{AreaView}
use Rattle.property_service.proofs.Seats.{keeps_entered, list_entered, ok_and}
use Rattle.property_service.specs.Record.{recorded}
use Rattle.property_service.specs.Service.{ServiceView, has_seat}
use Rattle.property_service.proofs.desk.Desk.enter.Given as given
use Rattle.property_service.proofs.desk.Desk.enter.Goals.{After-store_mut}
use Rattle.property_service.proofs.desk.Desk.enter.Goals as goal

free : (g : given.Over) (c : After-store_mut g) → has_seat c.self.inside.core.store.view c.args.who.0 ≡ false
free g c = ap (λ (t : ServiceView). has_seat t.seat c.args.who.0) c.self.view_is ∙ c.requires.once

within : (g : given.Over) (c : After-store_mut g) → c.args.who.0 < length c.self.inside.seats
within g c =
    let wide = (c.self.invariant c.if-self.false).wide in
    let domains = ap (λ (t : ServiceView). length t.opening.config.domains) c.self.view_is in
    omega (arith, c.requires.known)

pub invariant_of-self : goal.invariant_of-self
invariant_of-self g c ready =
    let p = (goal.at.invariant_of-self g c).After-store_mut in
    let core = c.self.inside.core in
    let who = c.args.who.0 in
    let same = c.store_mut.ensures.same in
    let view : c.hand_out.new.self.view ≡ handing who core.store.view = c.hand_out.ensures.writer.1 ∙ ap (λ (x : Seated). handing who x.view) same in
    keeps_entered g.N.AreaName.area core c.self.inside.seats who (c.self.invariant ready) (free g p) (within g p) _ c.set.new.self c.set.ensures view
    (c.hand_out.ensures.writer.0.0 ∙ ap (λ (x : Seated). x.table) same) refl refl refl
    (ap (λ (x : AreaView). let t : State = record core.state { props = store_of x } in t) view)

pub returns-clause-list : goal.returns-clause-list
returns-clause-list g c =
    let p = (goal.at.returns-clause-list g c).After-store_mut in
    let who = c.args.who.0 in
    let h = c.self.invariant c.if-self.false in
    let same = c.store_mut.ensures.same in
    ok_and (λ (r : Seated). (r.table ≡ c.store_mut.result.now.table) × (r.view ≡ handed who c.store_mut.result.now.view))
    (λ (r : Seated). (r.view.list ≡ []) × (r.view.opening ≡ Some (recorded c.args.self.now.opening))) c.hand_out.result
    (λ r is. (
      ap (λ (x : AreaView). x.list) is.1 ∙ ap (λ (x : Seated). (handed who x.view).list) same ∙ list_entered g.N.AreaName.area c.self.inside.core c.self.inside.seats who h (free g p) (within g p),
      ap (λ (x : AreaView). x.opening) is.1 ∙ ap (λ (x : Seated). x.view.opening) same ∙ h.agrees.opened ∙ ap (λ (t : ServiceView). Some (recorded t.opening)) c.self.view_is,
    ))
    c.hand_out.ensures.reader
