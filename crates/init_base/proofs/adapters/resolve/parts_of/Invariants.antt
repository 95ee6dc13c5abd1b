use Rattle.std.proofs.Common.{◌≡◌, ◌++◌, length}
use Rattle.init_base.specs.Resolve.{parts_of}
use Rattle.init_base.proofs.adapters.resolve.parts_of.Given as goal

abbrev pub invariant-loop-at : goal.invariant-loop-at
invariant-loop-at l = l.parts ++ parts_of l.rest ≡ parts_of l.path

abbrev pub decreases-loop-at : goal.decreases-loop-at
decreases-loop-at l = length l.rest
