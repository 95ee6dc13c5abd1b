use Rattle.std.proofs.Common.{◌≡◌, ◌++◌}
use Rattle.init_base.specs.Lines.{lines_of}
use Rattle.trace_causes.specs.Lines.{front}
use Rattle.trace_causes.proofs.bad_line.ended_front.Given as goal

-- what is left decides
abbrev pub invariant-loop-left : goal.invariant-loop-left
invariant-loop-left l = l.page.items ++ front (lines_of l.rest) l.left ≡ front (lines_of l.text) l.count

abbrev pub decreases-loop-left : goal.decreases-loop-left
decreases-loop-left l = l.left
