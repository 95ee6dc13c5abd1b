use Rattle.std.proofs.Common.{◌++◌, codes}
use Rattle.lint_findings.specs.Sarif.{result_text}
use Rattle.lint_findings.proofs.Elements.{next_more}
use Rattle.lint_findings.proofs.sarif.put_more.Goals as goal

pub loop-finding-preserved : goal.loop-finding-preserved
loop-finding-preserved c =
    next_more (λ finding. codes "," ++ result_text c.args.style.now finding) c.args.findings.now c.loop-finding.finding-index c.finding-item.result
    c.loop-finding.page.items c.put_next.new.page.items _ c.loop-finding-test.true c.finding-item.is c.in_ok-put_next.ensures c.loop-finding.invariant
