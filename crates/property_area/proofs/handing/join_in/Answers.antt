use Rattle.std.proofs.Common.{None, ◌∙◌, sym, arith}
use Rattle.property_area.proofs.Readers.{area_joins}
use Rattle.property_area.proofs.handing.join_in.Goals as goal

pub join_seat-requires : goal.join_seat-requires
join_seat-requires g c =
    let size = c.area.invariant.0 in
    let rests = c.requires.reader.1 in (
      c.requires.table.0 ∙ sym c.area.view_is,
      c.requires.table.1 ∙ sym c.area.view_is,
      c.requires.table.2,
      omega arith,
      area_joins c.args.seat.now.id c.args.reader.id g.Q.Handing.seat c.args.seat.now.me.0 c.args.reader.me.0 None rests.0 g.Q.Handing.words c.requires.writer.0 c.requires.reader.0 rests.1
          c.requires.reader.2 c.requires.writer.2,
    )
