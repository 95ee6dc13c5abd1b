use Rattle.std.proofs.Common.{sym, ◌∙◌}
use Rattle.lint_sources.proofs.Headers.{no_bang}
use Rattle.lint_sources.proofs.excuse.are_good_as_equal.Goals as goal

pub returns-else-have_bang : goal.returns-else-have_bang
returns-else-have_bang c = no_bang _ _ (sym c.have_bang.ensures ∙ c.if-have_bang.false)
