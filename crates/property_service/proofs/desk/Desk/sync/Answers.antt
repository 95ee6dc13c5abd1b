use Rattle.std.proofs.Common.{None, refl, ap, ◌∙◌, subst}
use Rattle.init_machine.specs.History.{sets_of}
use Rattle.init_machine.specs.Orderly.{ListStands}
use Rattle.init_machine.specs.State.{State}
use Rattle.property_area.specs.Seats.{store_of}
use Rattle.property_area.specs.declared.view.AreaView.{AreaView}
use Rattle.property_service.proofs.Moves.{CameIn, came_to}
use Rattle.property_service.proofs.Syncing.{keeps_synced, may_go_out, may_sync, shown_synced, stands_synced, view_back, view_out}
use Rattle.property_service.specs.Desk.{DeskHolds}
use Rattle.property_service.specs.Service.{ServiceView, has_seat}
use Rattle.property_service.proofs.desk.Desk.sync.Given as given
use Rattle.property_service.proofs.desk.Desk.sync.Goals.{After-take_in-who}
use Rattle.property_service.proofs.desk.Desk.sync.Goals as goal

holds : (g : given.Over) (c : After-take_in-who g) → DeskHolds g.N.AreaName.area c.self.inside.core c.self.inside.seats
holds g c = c.self.invariant c.if-self.false

came : (g : given.Over) (c : After-take_in-who g) → CameIn c.self.inside.core.store c.args.reader c.take_in-who.new.self
came g c =
    let taken = c.take_in-who.ensures in
    came_to c.store_mut-writer.result.now c.self.inside.core.store c.args.reader c.take_in-who.new.self c.store_mut-writer.ensures.same
    (record { same = taken.writer.0; view = taken.writer.1; stands = taken.stands; opening = taken.opening; only = taken.only })

pub synced-count-requires : goal.synced-count-requires
synced-count-requires g c =
    let p = (goal.at.synced-count-requires g c).After-take_in-who in
    record { client = may_sync (holds g p) (came g p) c.take_in-who.ensures.client }

pub hand_out-requires : goal.hand_out-requires
hand_out-requires g c =
    let p = (goal.at.hand_out-requires g c).After-take_in-who in
    record { client = may_go_out (holds g p) (came g p) c.take_in-who.ensures.client c.synced-count.ensures.writer.1 }

pub invariant_of-self : goal.invariant_of-self
invariant_of-self g c ready =
    let p = (goal.at.invariant_of-self g c).After-take_in-who in
    let now = view_out (holds g p) (came g p) c.take_in-who.ensures.client c.synced-count.ensures.writer.1 c.hand_out.ensures.writer.1 in
    keeps_synced (holds g p) (came g p) _ now
    (c.hand_out.ensures.writer.0.0 ∙ c.synced-count.ensures.writer.0.0 ∙ (came g p).same.0) refl refl refl
    (ap (λ (x : AreaView). let t : State = record c.self.inside.core.state { props = store_of x } in t) now)

pub returns-in-Ok-clause-stands : goal.returns-in-Ok-clause-stands
returns-in-Ok-clause-stands g c =
    let p = (goal.at.returns-in-Ok-clause-stands g c).After-take_in-who in
    let back = c.in-Ok.reader in
    let view = view_back (holds g p) (came g p) c.take_in-who.ensures.client c.synced-count.ensures.writer.1 c.in-Ok.ensures.reader.1 in
    subst (λ (t : ServiceView). ListStands (sets_of t.history) None back.view.began back.view.list) c.self.view_is (stands_synced (holds g p) (came g p) back view)

pub returns-in-Ok-clause-seats : goal.returns-in-Ok-clause-seats
returns-in-Ok-clause-seats g c =
    let p = (goal.at.returns-in-Ok-clause-seats g c).After-take_in-who in
    let now = view_out (holds g p) (came g p) c.take_in-who.ensures.client c.synced-count.ensures.writer.1 c.hand_out.ensures.writer.1 in
    λ q. (shown_synced (holds g p) (came g p) c.hand_out.new.self.view now).1 q ∙ ap (λ (t : ServiceView). has_seat t.seat q) c.self.view_is
