use Rattle.std.proofs.Common.{◌≡◌, ℕ, ◌-◌, List, [], ◌++◌}
use Rattle.lint_findings.specs.internal.Rows.{count_in}
use Rattle.lint_findings.specs.Left.{having, known, left_behind}
use Rattle.lint_findings.proofs.leaving.left.Given as goal

-- what is left decides, and each line is there as often as it isn't used up
abbrev pub invariant-loop-finding : goal.invariant-loop-finding
invariant-loop-finding l = record {
  decides : l.left ++ left_behind l.baseline.rows l.yielded l.finding-iterator.rest.items ≡ left_behind l.baseline.rows [] l.fn.findings;
  counts : (q : List ℕ) → count_in l.counts.numbers q ≡ known l.baseline.rows q - having l.yielded q;
}
