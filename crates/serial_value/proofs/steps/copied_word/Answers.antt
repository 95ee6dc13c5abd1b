use Rattle.serial_value.proofs.steps.copied_word.Goals as goal

pub load-requires : goal.load-requires
load-requires g c = (
  c.requires.table,
  c.requires.place,
  rw c.requires.lies.1 (g.met.R.CellRule.copied_word _ _ _ _ _ _ _ _ c.requires.linked c.requires.lies.0),
)
