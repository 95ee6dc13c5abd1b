use Rattle.std.proofs.Common.{None, ◌∙◌, sym, arith}
use Rattle.property_area.proofs.Readers.{area_splits}
use Rattle.property_area.proofs.handing.split_off.Goals as goal

pub split_seat-requires : goal.split_seat-requires
split_seat-requires g c =
    let size = c.area.invariant.0 in
    (c.requires.table ∙ sym c.area.view_is, omega arith, area_splits g.Q.Handing.who c.args.seat.now.id c.args.seat.now.me.0 None c.requires.writer.0 c.requires.writer.1 c.requires.writer.2)
