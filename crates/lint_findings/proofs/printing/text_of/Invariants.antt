use Rattle.std.proofs.Common.{◌≡◌, ◌++◌, drop, map}
use Rattle.std.specs.List.{flat_map}
use Rattle.lint_findings.specs.Baseline.{baseline_text, ended}
use Rattle.lint_findings.proofs.printing.text_of.Given as goal

-- what is left decides
abbrev pub invariant-loop-row : goal.invariant-loop-row
invariant-loop-row l =
    l.page.items ++ flat_map ended (map (λ row. row.items) (drop l.row-index l.rows)) ≡ baseline_text (map (λ row. row.items) l.rows)
