use Rattle.std.proofs.Common.{◌≡◌, ◌+◌, ◌≤◌, length}
use Rattle.persist_file.specs.Causes.{parts_at}
use Rattle.persist_file.specs.internal.Readings.{reading, rest_reading}
use Rattle.persist_file.proofs.reading.read_lines.Given as goal

-- what is left decides
abbrev pub invariant-loop-rest : goal.invariant-loop-rest
invariant-loop-rest l = record {
  left : rest_reading l.version l.pairs (parts_at 10 l.rest) ≡ reading l.bytes;
  few : length l.pairs + length l.rest ≤ length l.bytes;
}

abbrev pub decreases-loop-rest : goal.decreases-loop-rest
decreases-loop-rest l = length l.rest
