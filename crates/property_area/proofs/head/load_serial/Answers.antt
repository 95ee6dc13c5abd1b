use Rattle.std.proofs.Common.{◌∙◌, sym, arith}
use Rattle.property_area.proofs.Readers.{area_caught}
use Rattle.property_area.proofs.head.load_serial.Goals as goal

pub load-requires : goal.load-requires
load-requires c =
    let size = c.area.invariant.0 in
    let rests = c.requires.reader in (
      c.requires.table ∙ sym c.area.view_is,
      omega arith,
      area_caught c.area.inside.table.shared.table_id.slots c.args.seat.now.id c.args.seat.now.me rests.0 rests.1,
    )
