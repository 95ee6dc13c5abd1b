use Rattle.std.proofs.Common.{arith}
use Rattle.serial_value.proofs.steps.value_word.Goals as goal

pub put-requires-clause-may : goal.put-requires-clause-may
put-requires-clause-may g c = (
  c.requires.cell.0,
  omega arith,
  rw (c.requires.cell.2, c.requires.update.2, c.requires.word) (g.met.R.CellRule.value_word _ _ _ _ _ _ _ _
      c.requires.writer.0 c.requires.writer.1 c.requires.update.0 c.requires.update.1),
)
