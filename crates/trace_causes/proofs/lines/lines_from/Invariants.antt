use Rattle.std.proofs.Common.{◌≡◌, ◌-◌, drop}
use Rattle.init_base.specs.Lines.{lines_of}
use Rattle.trace_causes.proofs.lines.lines_from.Given as goal

abbrev pub invariant-loop-left : goal.invariant-loop-left
invariant-loop-left l = drop (l.number - 1) (lines_of l.text) ≡ drop l.left (lines_of l.rest)

abbrev pub decreases-loop-left : goal.decreases-loop-left
decreases-loop-left l = l.left
