use Rattle.std.proofs.Common.{◌≡◌, ◌≤◌, ◌+◌, length}
use Rattle.rc_tokens.specs.internal.Steps as steps
use Rattle.rc_tokens.proofs.read.read.Given as goal

-- what is left decides
abbrev pub invariant-loop-rest : goal.invariant-loop-rest
invariant-loop-rest l = record {
  left_decides : steps.run l.reader l.rest ≡ steps.run steps.start l.bytes;
  low : l.reader.number + length l.rest ≤ length l.bytes + 1;
}

abbrev pub decreases-loop-rest : goal.decreases-loop-rest
decreases-loop-rest l = length l.rest
