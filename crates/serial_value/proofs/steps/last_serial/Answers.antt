use Rattle.std.proofs.Common.{arith}
use Rattle.serial_value.proofs.steps.last_serial.Goals as goal

pub load-requires : goal.load-requires
load-requires g c = (
  c.requires.cell.0.0,
  omega arith,
  rw c.requires.cell.0.2 (g.met.R.CellRule.last_serial _ _ _ _ _ _ c.requires.cell.1 c.requires.copied),
)
