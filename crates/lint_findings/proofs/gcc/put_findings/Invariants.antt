use Rattle.std.proofs.Common.{◌≡◌, ◌++◌, drop}
use Rattle.std.specs.List.{flat_map}
use Rattle.lint_findings.specs.Gcc.{finding_line}
use Rattle.lint_findings.proofs.gcc.put_findings.Given as goal

-- what is left decides
abbrev pub invariant-loop-finding : goal.invariant-loop-finding
invariant-loop-finding l =
    l.page.items ++ flat_map (finding_line l.style) (drop l.finding-index l.findings)
    ≡ l.initial.page.items ++ flat_map (finding_line l.style) l.findings
