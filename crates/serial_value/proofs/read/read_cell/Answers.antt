use Rattle.std.proofs.Common.{refl}
use Rattle.serial_value.proofs.Reading.{idle_after}
use Rattle.serial_value.proofs.read.read_cell.Goals as goal

pub returns-clause-idle : goal.returns-clause-idle
returns-clause-idle g c =
    let R = g.R.CellRule in
    let L = g.met.R.CellRule in
    let v = c.args.seat.now.me.0 in
    idle_after R.cell R.with_cell R.noted L.part.cell_with L.told.cell_noted v c.read_as.new.seat.me.0 (R.cell v) c.args.name.bytes.now c.read_as.result c.args.out.now c.read_as.new.out refl c.requires.idle
    c.read_as.ensures.answer
