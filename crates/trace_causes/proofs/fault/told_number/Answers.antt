use Rattle.std.proofs.Common.{arith}
use Rattle.trace_causes.proofs.Fronts.{lines_few}
use Rattle.trace_causes.proofs.fault.told_number.Goals as goal

pub overflow_add-result : goal.overflow_add-result
overflow_add-result c = omega (arith, lines_few c.args.text.now)
