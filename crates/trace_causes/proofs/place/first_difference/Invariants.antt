use Rattle.std.proofs.Common.{◌≡◌, length}
use Rattle.init_base.specs.Lines.{lines_of}
use Rattle.trace_causes.specs.Places.{first_difference}
use Rattle.trace_causes.proofs.place.first_difference.Given as goal

-- what is left decides
abbrev pub invariant-loop-left : goal.invariant-loop-left
invariant-loop-left l =
    first_difference (lines_of l.lines) l.first (lines_of l.wanted) ≡ first_difference (lines_of l.rest) l.line (lines_of l.left)

abbrev pub decreases-loop-left : goal.decreases-loop-left
decreases-loop-left l = length l.left
