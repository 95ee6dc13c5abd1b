use Rattle.std.proofs.Common.{◌≡◌, ◌++◌, drop, codes}
use Rattle.std.specs.List.{flat_map}
use Rattle.lint_findings.specs.Sarif.{rule_text}
use Rattle.lint_findings.proofs.sarif.put_more_rules.Given as goal

-- what is left decides
abbrev pub invariant-loop-kind : goal.invariant-loop-kind
invariant-loop-kind l =
    l.page.items ++ flat_map (λ kind. codes "," ++ rule_text kind.1) (drop l.kind-index l.kinds)
    ≡ l.initial.page.items ++ flat_map (λ kind. codes "," ++ rule_text kind.1) l.kinds
