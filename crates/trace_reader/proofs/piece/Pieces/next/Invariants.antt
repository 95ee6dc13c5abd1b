use Rattle.std.proofs.Common.{◌≡◌, ◌≤◌, length}
use Rattle.trace_reader.specs.Pieces.{left_of, most_entries}
use Rattle.trace_reader.proofs.piece.Pieces.next.Given as goal

-- nothing of what was left is lost, and no further entry comes
abbrev pub invariant-loop-self : goal.invariant-loop-self
invariant-loop-self l = record {
  left : left_of l.initial.self ≡ left_of l.self;
  most : most_entries l.self ≤ most_entries l.initial.self;
}

abbrev pub decreases-loop-self : goal.decreases-loop-self
decreases-loop-self l = length l.self.rest.now
