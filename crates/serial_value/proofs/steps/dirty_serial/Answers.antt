use Rattle.std.proofs.Common.{arith}
use Rattle.serial_value.proofs.steps.dirty_serial.Goals as goal

pub store-requires : goal.store-requires
store-requires g c = (
  c.requires.cell.0,
  omega arith,
  rw (c.requires.cell.2, c.requires.update.1) (g.met.R.CellRule.dirty_serial _ _ _ _ _ _ _ _
      c.requires.writer.0 c.requires.writer.1 c.requires.update.0 c.requires.word.0),
)
