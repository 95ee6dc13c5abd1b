use Rattle.std.proofs.Common.{◌≡◌}
use Rattle.std.specs.Prelude.{is_some}
use Rattle.trace_reader.specs.Pieces.{left_of, most_entries}
use Rattle.trace_causes.proofs.bad_line.stop_among.Given as goal

-- what is left decides
abbrev pub invariant-loop-entry : goal.invariant-loop-entry
invariant-loop-entry l = is_some (left_of l.initial.pieces) ≡ is_some (left_of l.pieces)

abbrev pub decreases-loop-entry : goal.decreases-loop-entry
decreases-loop-entry l = most_entries l.pieces
