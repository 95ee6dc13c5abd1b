use Rattle.trace_reader.specs.Pieces.{left_of, most_entries}
use Rattle.trace_audit.proofs.Texts.{IsAmidText}
use Rattle.trace_audit.proofs.auditing.take_all.Given as goal

-- the entries so far are taken
abbrev pub invariant-loop-entry : goal.invariant-loop-entry
invariant-loop-entry l =
    IsAmidText l.script l.initial.audit l.audit (left_of l.initial.pieces) (left_of l.pieces) (most_entries l.initial.pieces) (most_entries l.pieces)

abbrev pub decreases-loop-entry : goal.decreases-loop-entry
decreases-loop-entry l = most_entries l.pieces
