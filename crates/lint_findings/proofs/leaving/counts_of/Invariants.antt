use Rattle.std.proofs.Common.{◌≡◌, ℕ, List, take}
use Rattle.lint_findings.specs.internal.Rows.{count_in}
use Rattle.lint_findings.specs.Left.{known}
use Rattle.lint_findings.proofs.leaving.counts_of.Given as goal

-- the lines so far are counted
abbrev pub invariant-loop-row : goal.invariant-loop-row
invariant-loop-row l = (q : List ℕ) → count_in l.counts.numbers q ≡ known (take l.row-index l.rows) q
