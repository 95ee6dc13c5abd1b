use Rattle.std.proofs.Common.{◌∙◌, sym, arith}
use Rattle.property_area.proofs.Readers.{area_put_away}
use Rattle.property_area.proofs.handing.put_in_place.Goals as goal

pub load-requires : goal.load-requires
load-requires c =
    let size = c.area.invariant.0 in (
      c.requires.table ∙ sym c.area.view_is,
      omega arith,
      area_put_away c.area.inside.table.shared.table_id.slots c.args.seat.now.id c.args.seat.now.me 0 c.requires.writer,
    )
