use Rattle.std.proofs.Common.{◌≡◌, ◌≤◌, length, sym, refl, ap, ◌∙◌, subst, arith}
use Rattle.atomic_table.specs.Seated.{TableId}
use Rattle.init_machine.proofs.LegalNames.{legal_len}
use Rattle.serial_value.specs.Cell.{accepted}
use Rattle.property_trie.specs.Additions.{linking}
use Rattle.property_area.specs.declared.view.AreaView.{AreaView}
use Rattle.property_area.specs.Area.{with_cell, with_trie}
use Rattle.property_area.specs.Seats.{sets_in, settled_view, IsWriterView}
use Rattle.property_area.proofs.Looking.{fit_new, set_view}
use Rattle.property_area.proofs.Meaning.{new_cell_fits}
use Rattle.property_area.proofs.store.set_new.Goals as goal

pub returns-clause-seat : goal.returns-clause-seat
returns-clause-seat c =
    let v = c.args.seat.now.me.0 in
    let name = c.args.name.bytes.now in
    let value = c.args.value.bytes.now in
    let place = c.add-place.result in
    let h = c.requires.writer.2 in
    let first = c.add-place.ensures.view in
    let trie = linking v.trie name place in
    let me : c.store_serial.new.seat.me ≡ (settled_view (with_cell (with_trie v trie) (accepted v.cell name value)), c.args.seat.now.me.1) =
    c.store_serial.ensures.view ∙ (λ i. (settled_view (first i).0, (first i).1)) in
    let table = c.store_serial.ensures.seat.0 ∙ c.add-place.ensures.seat.0 in
    let number = c.requires.number in
    let fit = fit_new (sets_in v) h.fit name value c.requires.absent (legal_len name value c.requires.legal) in
    let view = set_view c.args.seat.now.table_id v name value trie h (record { live = h.rests.live; no_trail = h.rests.no_trail; no_adding = refl }) (omega arith) fit in (
      (table, c.store_serial.ensures.seat.1 ∙ c.add-place.ensures.seat.1),
      ap (λ m. m.1) me ∙ c.requires.writer.1,
      subst (λ (x : TableId × AreaView). IsWriterView x.0 x.1) (λ i. (sym table i, sym (ap (λ m. m.0) me) i)) view,
    )

pub returns-clause-known : goal.returns-clause-known
returns-clause-known c =
    let v = c.args.seat.now.me.0 in
    let first = c.add-place.ensures.view in
    ap (λ m. m.0.trie.known) c.store_serial.ensures.view ∙ (λ i. (settled_view (first i).0).trie.known)

pub returns-clause-cell : goal.returns-clause-cell
returns-clause-cell c =
    new_cell_fits c.args.area.now (sets_in c.args.seat.now.me.0) c.args.name.bytes.now c.add-place.result (length c.args.value.bytes.now)
    (subst (λ (t : TableId). t.words ≤ 1048576) c.area.view_is c.area.invariant.1) c.add-place.ensures.place c.requires.room
