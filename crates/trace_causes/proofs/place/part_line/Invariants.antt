use Rattle.std.proofs.Common.{◌≡◌, ◌+◌, ◌≤◌, length}
use Rattle.init_base.specs.Lines.{lines_of}
use Rattle.trace_causes.specs.Places.{part_line}
use Rattle.trace_causes.proofs.place.part_line.Given as goal

-- what is left decides
abbrev pub invariant-loop-rest : goal.invariant-loop-rest
invariant-loop-rest l = record {
  left : part_line l.kind l.fn.number 1 (lines_of l.text) ≡ part_line l.kind l.left (l.line + 1) (lines_of l.rest);
  few : l.line + length l.rest ≤ length l.text;
}

abbrev pub decreases-loop-rest : goal.decreases-loop-rest
decreases-loop-rest l = length l.rest
