use Rattle.std.proofs.Common.{sym, ap, ◌∙◌}
use Rattle.list_store.specs.internal.ListStore.{stored}
use Rattle.init_machine.specs.Props.{full_for}
use Rattle.init_machine.proofs.Ample.{room_for_any}
use Rattle.init_machine.proofs.LegalNames.{legal_short}
use Rattle.list_store.proofs.ListStorePropStore.room.Goals as goal

pub returns-then-has_room_for_any-clause-full : goal.returns-then-has_room_for_any-clause-full
returns-then-has_room_for_any-clause-full c =
    let name = c.args.name.bytes.now in
    let ample = sym c.has_room_for_any.ensures ∙ c.if-has_room_for_any.true in
    let full = room_for_any (stored c.self.inside).props c.self.inside.used name c.args.len (legal_short name c.args.name.legal) c.self.invariant.used ample in
    c.check_numbers.ensures ∙ sym (ap (λ s. full_for s.props name c.args.len) (sym c.self.view_is) ∙ full)
