use Rattle.std.proofs.Common.{◌≡◌, ◌++◌, List, ℕ, length}
use Rattle.std.specs.Option.{option_map}
use Rattle.trace_reader.specs.Words.{bytes_in}
use Rattle.trace_reader.proofs.serial.spelled_bytes.Given as goal

-- what is left decides
abbrev pub invariant-loop-rest : goal.invariant-loop-rest
invariant-loop-rest l = option_map (λ (more : List ℕ). l.bytes ++ more) (bytes_in l.rest) ≡ bytes_in l.word

abbrev pub decreases-loop-rest : goal.decreases-loop-rest
decreases-loop-rest l = length l.rest
