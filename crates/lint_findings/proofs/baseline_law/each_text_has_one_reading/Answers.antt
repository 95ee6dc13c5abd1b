use Rattle.lint_findings.proofs.Readable.{printed_is_one}
use Rattle.lint_findings.proofs.Uniqueness.{not_both, same_baseline, same_number}
use Rattle.lint_findings.proofs.baseline_law.each_text_has_one_reading.Goals as goal

pub returns-clause-rows : goal.returns-clause-rows
returns-clause-rows c = same_baseline

pub returns-clause-line : goal.returns-clause-line
returns-clause-line c = same_number

pub returns-clause-not_both : goal.returns-clause-not_both
returns-clause-not_both c = not_both

pub returns-clause-printed : goal.returns-clause-printed
returns-clause-printed c = printed_is_one
