use Rattle.std.proofs.Common.{refl, ap, ◌∙◌}
use Rattle.init_machine.specs.State.{State}
use Rattle.property_area.specs.Seats.{store_of}
use Rattle.property_area.specs.declared.view.AreaView.{AreaView}
use Rattle.property_service.proofs.Moves.{CameIn, came_to}
use Rattle.property_service.proofs.Renewing.{keeps_renewed, may_return, shown_renewed, view_renewed}
use Rattle.property_service.specs.Desk.{DeskHolds}
use Rattle.property_service.specs.Service.{ServiceView, has_seat}
use Rattle.property_service.proofs.desk.Desk.renew.Given as given
use Rattle.property_service.proofs.desk.Desk.renew.Goals.{After-take_in-who}
use Rattle.property_service.proofs.desk.Desk.renew.Goals as goal

holds : (g : given.Over) (c : After-take_in-who g) → DeskHolds g.N.AreaName.area c.self.inside.core c.self.inside.seats
holds g c = c.self.invariant c.if-self.false

came : (g : given.Over) (c : After-take_in-who g) → CameIn c.self.inside.core.store c.args.reader c.take_in-who.new.self
came g c =
    let taken = c.take_in-who.ensures in
    came_to c.store_mut-writer.result.now c.self.inside.core.store c.args.reader c.take_in-who.new.self c.store_mut-writer.ensures.same
    (record { same = taken.writer.0; view = taken.writer.1; stands = taken.stands; opening = taken.opening; only = taken.only })

pub hand_out-requires : goal.hand_out-requires
hand_out-requires g c =
    let p = (goal.at.hand_out-requires g c).After-take_in-who in
    record { client = may_return (holds g p) (came g p) c.take_in-who.ensures.client }

pub invariant_of-self : goal.invariant_of-self
invariant_of-self g c ready =
    let p = (goal.at.invariant_of-self g c).After-take_in-who in
    let now = view_renewed (holds g p) (came g p) c.take_in-who.ensures.client c.hand_out.ensures.writer.1 in
    keeps_renewed (holds g p) (came g p) _ now
    (c.hand_out.ensures.writer.0.0 ∙ (came g p).same.0) refl refl refl
    (ap (λ (x : AreaView). let t : State = record c.self.inside.core.state { props = store_of x } in t) now)

pub returns-in-Ok-clause-seats : goal.returns-in-Ok-clause-seats
returns-in-Ok-clause-seats g c =
    let p = (goal.at.returns-in-Ok-clause-seats g c).After-take_in-who in
    let now = view_renewed (holds g p) (came g p) c.take_in-who.ensures.client c.hand_out.ensures.writer.1 in
    λ q. (shown_renewed (holds g p) (came g p) c.hand_out.new.self.view now).1 q ∙ ap (λ (t : ServiceView). has_seat t.seat q) c.self.view_is
