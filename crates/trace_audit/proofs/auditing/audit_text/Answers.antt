use Rattle.init_core.specs.Core.{opening_of}
use Rattle.trace_audit.proofs.auditing.audit_text.Goals as goal

pub returns : goal.returns
returns c = c.text_judged.ensures (opening_of c.args.config c.args.policy c.args.script.now.words) c.in_ok-audit.ensures
