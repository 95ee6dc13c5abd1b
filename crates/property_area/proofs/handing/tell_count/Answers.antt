use Rattle.std.proofs.Common.{None, ◌∙◌, sym, arith}
use Rattle.property_area.proofs.Readers.{area_synced}
use Rattle.property_area.proofs.handing.tell_count.Goals as goal

pub load-requires : goal.load-requires
load-requires g c =
    let size = c.area.invariant.0 in (
      c.requires.table ∙ sym c.area.view_is,
      omega arith,
      area_synced g.Q.Handing.who c.area.inside.table.shared.table_id.slots c.args.seat.now.id c.args.seat.now.me None 0 c.requires.writer.0 c.requires.writer.1 c.requires.writer.2,
    )
