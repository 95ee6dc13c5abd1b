use Rattle.std.proofs.Common.{arith}
use Rattle.serial_value.proofs.steps.backup_word.Goals as goal

pub put-requires-clause-may : goal.put-requires-clause-may
put-requires-clause-may g c = (
  c.requires.table,
  omega arith,
  rw c.requires.update.2 (g.met.R.CellRule.backup_word _ _ _ _ _ _ _ _ _
      c.requires.writer.0 c.requires.writer.1 c.requires.update.0 c.requires.update.1 c.requires.update.3 c.requires.update.4 c.requires.word),
)
