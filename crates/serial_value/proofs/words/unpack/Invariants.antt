use Rattle.std.proofs.Common.{◌≡◌, ℕ, List, ◌*◌, ◌<◌, length, get_or}
use Rattle.serial_value.specs.Words.{IsShortValue, HasBody}
use Rattle.serial_value.proofs.words.unpack.Given as goal

abbrev pub invariant-loop-k : goal.invariant-loop-k
invariant-loop-k l =
    record {
      wide : length l.out ≡ length l.initial.out;
      done : (value : List ℕ) → IsShortValue value → HasBody l.words value → (i : ℕ) → i < 8 * l.k → get_or l.out i 0 ≡ get_or value i 0;
    }
