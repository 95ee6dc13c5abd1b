use Rattle.serial_value.proofs.Told.{tells_history}
use Rattle.serial_value.proofs.history.reader_history.Goals as goal

pub load-requires : goal.load-requires
load-requires g c =
    let R = g.R.CellRule in
    let L = g.met.R.CellRule in
    let key = c.args.table.now.shared.key in (
      c.requires.table.0,
      c.requires.table.1,
      tells_history (g.R.TableRule.holds key) R.cell R.began R.list (L.writer_there key) (L.lists_stand key) c.args.table.now.shared.table_id.slots c.args.seat.now.id c.args.seat.now.me 0,
    )
