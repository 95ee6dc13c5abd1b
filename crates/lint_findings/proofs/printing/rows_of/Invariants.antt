use Rattle.std.proofs.Common.{◌≡◌, ◌++◌, drop, map}
use Rattle.lint_findings.specs.Baseline.{row_of}
use Rattle.lint_findings.proofs.printing.rows_of.Given as goal

-- what is left decides
abbrev pub invariant-loop-finding : goal.invariant-loop-finding
invariant-loop-finding l = map (λ row. row.items) l.rows.items ++ map row_of (drop l.finding-index l.findings) ≡ map row_of l.findings
