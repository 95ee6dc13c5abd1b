use Rattle.std.proofs.Common.{length}
use Rattle.rc_parse.specs.internal.Joining.{joined_of}
use Rattle.rc_parse.proofs.Joins.{Left}
use Rattle.rc_parse.proofs.trigger.joined.Given as goal

abbrev pub invariant-loop-left : goal.invariant-loop-left
invariant-loop-left l = Left l.triggers l.left (joined_of l.words)

abbrev pub decreases-loop-left : goal.decreases-loop-left
decreases-loop-left l = length l.left
