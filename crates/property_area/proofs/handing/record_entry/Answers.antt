use Rattle.std.proofs.Common.{None, ◌∙◌, sym, arith}
use Rattle.property_area.proofs.Readers.{area_noted}
use Rattle.property_area.proofs.handing.record_entry.Goals as goal

pub load-requires : goal.load-requires
load-requires g c =
    let size = c.area.invariant.0 in (
      c.requires.table ∙ sym c.area.view_is,
      omega arith,
      area_noted g.Q.Recording.entry c.area.inside.table.shared.table_id.slots c.args.seat.now.id c.args.seat.now.me None 0 c.requires.writer.0 c.requires.writer.1 c.requires.writer.2,
    )
