use Rattle.init_core.specs.Core.{opening_of}
use Rattle.trace_audit.proofs.Verdicts.{yes_if_ok}
use Rattle.trace_audit.proofs.auditing.audit.Goals as goal

pub returns-clause-says : goal.returns-clause-says
returns-clause-says c = c.judged.ensures (opening_of c.args.config c.args.policy c.args.script.now.words) c.in_ok-audit.ensures

pub returns-clause-yes : goal.returns-clause-yes
returns-clause-yes c =
    let opening = opening_of c.args.config c.args.policy c.args.script.now.words in
    yes_if_ok opening c.args.diagnostics.now c.args.script.now c.args.report.now c.judged.result (c.judged.ensures opening c.in_ok-audit.ensures)
