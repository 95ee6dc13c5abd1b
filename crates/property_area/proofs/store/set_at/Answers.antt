use Rattle.std.proofs.Common.{◌≡◌, sym, ap, ◌∙◌, subst, arith}
use Rattle.atomic_table.specs.Seated.{TableId}
use Rattle.serial_value.specs.Cell.{accepted}
use Rattle.property_area.specs.declared.view.AreaView.{AreaView}
use Rattle.property_area.specs.Area.{with_cell}
use Rattle.property_area.specs.Seats.{sets_in, settled_view, IsWriterView}
use Rattle.property_area.proofs.Looking.{fit_kept, set_view}
use Rattle.property_area.proofs.store.set_at.Goals as goal

pub returns-clause-seat : goal.returns-clause-seat
returns-clause-seat c =
    let v = c.args.seat.now.me.0 in
    let name = c.args.name.bytes.now in
    let value = c.args.value.bytes.now in
    let h = c.requires.writer.2 in
    let first = c.write_cell.ensures.view in
    let me : c.store_serial.new.seat.me ≡ (settled_view (with_cell v (accepted v.cell name value)), c.args.seat.now.me.1) =
    c.store_serial.ensures.view ∙ (λ i. (settled_view (first i).0, (first i).1)) in
    let table = c.store_serial.ensures.seat.0 ∙ c.write_cell.ensures.seat.0 in
    let number = c.requires.number in
    let view = set_view c.args.seat.now.table_id v name value v.trie h h.rests (omega arith) (fit_kept (sets_in v) h.fit name value c.requires.short.0 c.requires.short.1) in (
      (table, c.store_serial.ensures.seat.1 ∙ c.write_cell.ensures.seat.1),
      ap (λ m. m.1) me ∙ c.requires.writer.1,
      subst (λ (x : TableId × AreaView). IsWriterView x.0 x.1) (λ i. (sym table i, sym (ap (λ m. m.0) me) i)) view,
    )
