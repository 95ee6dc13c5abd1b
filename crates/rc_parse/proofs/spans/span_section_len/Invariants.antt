use Rattle.std.proofs.Common.{length}
use Rattle.rc_parse.proofs.Headers.{IsPassed}
use Rattle.rc_parse.proofs.spans.span_section_len.Given as goal

abbrev pub invariant-loop-line : goal.invariant-loop-line
invariant-loop-line l = IsPassed l.lines l.left

abbrev pub decreases-loop-line : goal.decreases-loop-line
decreases-loop-line l = length l.left
