use Rattle.serial_value.specs.Cell.{sets_of, updating}
use Rattle.serial_value.proofs.steps.backup_word.Given as goal

abbrev pub ghosts-put : goal.ghosts-put
ghosts-put g a = record {
  word = a.word;
  next = λ m. (g.R.CellRule.with_cell m.0 (updating (sets_of (g.R.CellRule.cell m.0)) g.Q.Asked.name g.Q.Asked.value g.Q.Asked.place g.Q.Asked.index), m.1);
}
