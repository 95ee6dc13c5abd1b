use Rattle.std.proofs.Common.{◌≡◌, ℕ, List, [], ◌++◌, length}
use Rattle.wire_format.specs.Wire.{front_of, whole}
use Rattle.wire_format.specs.declared.message.Message.{Message}
use Rattle.wire_format.proofs.pieces.fill.Given as goal

abbrev pub invariant-loop-len : goal.invariant-loop-len
invariant-loop-len l = record {
  moved : l.fn.tail.items ++ l.fn.piece ≡ l.tail.items ++ l.left;
  exact : (message : Message) (behind : List ℕ) → front_of l.tail.items ≡ whole message behind → behind ≡ [];
}

abbrev pub decreases-loop-len : goal.decreases-loop-len
decreases-loop-len l = length l.left
