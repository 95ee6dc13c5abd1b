use Rattle.std.proofs.Common.{length}
use Rattle.refusal_causes.proofs.script.argument.+arguments_cause.Given as goal

abbrev pub decreases-arguments_cause : goal.decreases-arguments_cause
decreases-arguments_cause l = length l.arguments.now
