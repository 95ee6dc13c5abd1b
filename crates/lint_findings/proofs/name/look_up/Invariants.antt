use Rattle.std.proofs.Common.{◌≡◌, length, map}
use Rattle.lint_findings.specs.Names.{choose}
use Rattle.lint_findings.proofs.name.look_up.Given as goal

-- what is left decides
abbrev pub invariant-loop-table : goal.invariant-loop-table
invariant-loop-table l = choose (map (λ row. (row.0.now, row.1)) l.table) l.name ≡ choose (map (λ row. (row.0.now, row.1)) l.initial.table) l.name

abbrev pub decreases-loop-table : goal.decreases-loop-table
decreases-loop-table l = length l.table
