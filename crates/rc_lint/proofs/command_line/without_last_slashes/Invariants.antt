use Rattle.std.proofs.Common.{length}
use Rattle.rc_lint.proofs.command_line.without_last_slashes.Given as goal

abbrev pub decreases-loop-rest : goal.decreases-loop-rest
decreases-loop-rest l = length l.rest
