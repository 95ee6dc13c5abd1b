use Rattle.std.proofs.Common.{◌≡◌, ◌++◌, ◌∷◌, [], false, Some, refl, sym, ap, ◌∙◌, subst}
use Rattle.init_machine.specs.State.{State}
use Rattle.property_area.specs.Seats.{IsSameBeside, Seated, sets_in, store_of}
use Rattle.property_area.specs.declared.view.AreaView.{AreaView}
use Rattle.property_service.proofs.Moves.{Took, came_to, comes_back, keeps_now, may_hand_out, may_note, entry_noted, props_back, shown_history, shown_seats, told_lines, view_back, view_now}
use Rattle.property_service.specs.Back.{ComesBackFrom}
use Rattle.property_service.specs.Service.{ServiceView, has_seat, next_entry, recorded_service}
use Rattle.property_service.proofs.desk.Desk.answer.Given as given
use Rattle.property_service.proofs.desk.Desk.answer.Goals.{After-store_mut-writer}
use Rattle.property_service.proofs.desk.Desk.answer.Goals as goal

took : (g : given.Over) (c : After-store_mut-writer g)
    → Took g.N.AreaName.area c.self.inside.core c.self.inside.seats c.args.reader c.args.input.now c.take_in-who.new.self c.store_mut-writer.result.now
took g c =
    let core = c.self.inside.core in
    let first = c.take_in-who.new.self in
    let taken = c.take_in-who.ensures in
    let lent_is : c.take.new.self.store ≡ c.store_mut-writer.result.now =
    sym c.store_mut-writer.ensures.same in
    record {
      holds = c.self.invariant (ap (λ (s : ServiceView). s.spent) c.self.view_is ∙ c.requires.ready);
      asker = c.requires.asker;
      may = c.requires.declared;
      came = came_to c.store_mut.result.now core.store c.args.reader first c.store_mut.ensures.same
          (record { same = taken.writer.0; view = taken.writer.1; stands = taken.stands; opening = taken.opening; only = taken.only });
      beside = subst (IsSameBeside first) lent_is c.take.ensures.beside;
      told = ap (λ (x : Seated). Some (sets_in x.view)) (sym lent_is) ∙ c.in-Ok.ensures.told;
    }

made : (g : given.Over) (c : After-store_mut-writer g)
    → next_entry (recorded_service c.store_mut-writer.result.now.view false) c.args.input.now ≡ next_entry (recorded_service c.self.inside.core.store.view false) c.args.input.now
made g c = entry_noted (took g c)

pub note-requires : goal.note-requires
note-requires g c =
    let p = (goal.at.note-requires g c).After-store_mut-writer in
    record { input = refl; next = may_note (took g p) _ (made g p) }

pub hand_out-requires : goal.hand_out-requires
hand_out-requires g c =
    let p = (goal.at.hand_out-requires g c).After-store_mut-writer in
    record { client = may_hand_out (took g p) (next_entry (recorded_service c.store_mut-writer.result.now.view false) c.args.input.now) c.note.ensures.writer.1 c.take_in-who.ensures.client }

pub returns-clause-outputs : goal.returns-clause-outputs
returns-clause-outputs g c =
    let p = (goal.at.returns-clause-outputs g c).After-store_mut-writer in
    subst (λ (t : ServiceView). g.O.Outputs.Adds c.args.outputs.now c.take.new.outputs (next_entry t c.args.input.now).outputs) c.self.view_is
    (told_lines (took g p) g.O.Outputs.Adds c.args.outputs.now c.take.new.outputs c.in-Ok.ensures.outputs)

pub returns-clause-history : goal.returns-clause-history
returns-clause-history g c =
    let p = (goal.at.returns-clause-history g c).After-store_mut-writer in
    let now = view_now (took g p) (made g p) c.note.ensures.writer.1 c.take_in-who.ensures.client c.hand_out.ensures.writer.1 in
    shown_history (took g p) c.hand_out.new.self.view now ∙ ap (λ (t : ServiceView). t.history ++ next_entry t c.args.input.now ∷ []) c.self.view_is

pub returns-clause-seats : goal.returns-clause-seats
returns-clause-seats g c =
    let p = (goal.at.returns-clause-seats g c).After-store_mut-writer in
    let now = view_now (took g p) (made g p) c.note.ensures.writer.1 c.take_in-who.ensures.client c.hand_out.ensures.writer.1 in
    λ q. shown_seats (took g p) c.hand_out.new.self.view now q ∙ ap (λ (t : ServiceView). has_seat t.seat q) c.self.view_is

pub returns-clause-reader : goal.returns-clause-reader
returns-clause-reader g c =
    let p = (goal.at.returns-clause-reader g c).After-store_mut-writer in
    let t = took g p in
    let back = c.in_ok-reader.reader in
    let view = view_back t (made g p) c.note.ensures.writer.1 c.take_in-who.ensures.client c.in_ok-reader.ensures.reader.1 in
    let table : back.table ≡ c.args.reader.table =
    c.in_ok-reader.ensures.reader.0 ∙ c.note.ensures.writer.0.0 ∙ sym t.beside.0 ∙ t.came.same.0 ∙ t.holds.table ∙ sym c.requires.area in
    subst (λ (s : ServiceView). ComesBackFrom s.history (next_entry s c.args.input.now) c.args.reader back) c.self.view_is (comes_back t back table view)

pub invariant_of-self-2 : goal.invariant_of-self-2
invariant_of-self-2 g c =
    let p = (goal.at.invariant_of-self-2 g c).After-store_mut-writer in
    let now = view_now (took g p) (made g p) c.note.ensures.writer.1 c.take_in-who.ensures.client c.hand_out.ensures.writer.1 in
    let state = c.take.new.self.state in
    let props = ap (λ (t : State). t.props) c.in-Ok.ensures.state in
    let same : store_of c.hand_out.new.self.view ≡ state.props = ap (λ (x : AreaView). store_of x) now ∙ c.store_mut-writer.ensures.props in
    λ _. keeps_now (took g p) _ now
    (c.hand_out.ensures.writer.0.0 ∙ c.note.ensures.writer.0.0)
    c.in-Ok.ensures.ready
    c.in-Ok.ensures.config
    c.in-Ok.ensures.policy
    (props_back state (store_of c.hand_out.new.self.view) same ∙ c.in-Ok.ensures.state)
    (c.store_mut-writer.ensures.props ∙ props)
