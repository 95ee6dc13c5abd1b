use Rattle.std.proofs.Common.{sym, ◌∙◌}
use Rattle.model_fs.proofs.Dots.{no_dots}
use Rattle.model_fs.proofs.path.has_dots.Goals as goal

pub returns-then-not-contains : goal.returns-then-not-contains
returns-then-not-contains c = sym (no_dots c.args.text.now (sym c.contains.ensures.value ∙ c.if-not-contains.true))
