use Rattle.std.proofs.Common.{None, ◌∙◌, sym, arith}
use Rattle.property_area.proofs.AreaSerial.{area_serial}
use Rattle.property_area.proofs.head.store_serial.Goals as goal

pub store-requires : goal.store-requires
store-requires c =
    let size = c.area.invariant.0 in (
      c.requires.table ∙ sym c.area.view_is,
      omega arith,
      area_serial c.area.inside.table.shared.table_id.slots c.args.seat.now.id c.args.seat.now.me None c.args.number c.requires.writer.0 c.requires.writer.1,
    )
