use Rattle.std.proofs.Common.{◌≡◌, ◌++◌, drop, codes}
use Rattle.std.specs.List.{flat_map}
use Rattle.lint_findings.specs.Json.{finding_json}
use Rattle.lint_findings.proofs.json.put_more.Given as goal

-- what is left decides
abbrev pub invariant-loop-finding : goal.invariant-loop-finding
invariant-loop-finding l =
    l.page.items ++ flat_map (λ finding. codes "," ++ finding_json l.style finding) (drop l.finding-index l.findings)
    ≡ l.initial.page.items ++ flat_map (λ finding. codes "," ++ finding_json l.style finding) l.findings
