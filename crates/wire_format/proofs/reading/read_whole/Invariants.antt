use Rattle.std.proofs.Common.{ℕ, List, length}
use Rattle.wire_format.specs.Wire.{BeginsWith}
use Rattle.wire_format.proofs.reading.read_whole.Given as goal

abbrev pub invariant-loop-message : goal.invariant-loop-message
invariant-loop-message l = (stream : List ℕ) → BeginsWith stream l.initial.messages l.initial.left → BeginsWith stream l.messages l.left

abbrev pub decreases-loop-message : goal.decreases-loop-message
decreases-loop-message l = length l.left
