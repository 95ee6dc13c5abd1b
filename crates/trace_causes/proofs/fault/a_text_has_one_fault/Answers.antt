use Rattle.trace_causes.proofs.OneFault.{one_fault}
use Rattle.trace_causes.proofs.fault.a_text_has_one_fault.Goals as goal

pub returns : goal.returns
returns c = one_fault
