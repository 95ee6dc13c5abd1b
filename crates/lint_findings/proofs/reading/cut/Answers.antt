use Rattle.std.proofs.Common.{sym, ◌∙◌}
use Rattle.init_base.proofs.Lacking.{lacks_unplaced}
use Rattle.lint_findings.proofs.Cuts.{cut_some}
use Rattle.lint_findings.proofs.reading.cut.Goals as goal

pub returns-in_err-place : goal.returns-in_err-place
returns-in_err-place c = rw c.from_residual.ensures (lacks_unplaced c.args.at c.args.bytes.now (sym c.place_of.ensures ∙ c.in_err-place.was))

pub returns : goal.returns
returns c = cut_some c.args.at c.args.bytes.now c.in_ok-place.place (sym c.place_of.ensures ∙ c.in_ok-place.was)
