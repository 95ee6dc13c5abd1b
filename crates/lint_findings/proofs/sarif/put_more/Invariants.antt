use Rattle.std.proofs.Common.{◌≡◌, ◌++◌, drop, codes}
use Rattle.std.specs.List.{flat_map}
use Rattle.lint_findings.specs.Sarif.{result_text}
use Rattle.lint_findings.proofs.sarif.put_more.Given as goal

-- what is left decides
abbrev pub invariant-loop-finding : goal.invariant-loop-finding
invariant-loop-finding l =
    l.page.items ++ flat_map (λ finding. codes "," ++ result_text l.style finding) (drop l.finding-index l.findings)
    ≡ l.initial.page.items ++ flat_map (λ finding. codes "," ++ result_text l.style finding) l.findings
