use Rattle.std.proofs.Common.{◌≡◌, ℕ, ◌+◌, ◌*◌, ◌<◌, ◌≤◌, ◌⊎◌, length, get_or}
use Rattle.serial_value.proofs.words.put_word.Given as goal

abbrev pub invariant-loop-j : goal.invariant-loop-j
invariant-loop-j l =
    record {
      wide : length l.out ≡ length l.initial.out;
      done : (i : ℕ) → i < l.j → get_or l.out (8 * l.k + i) 0 ≡ get_or l.bytes i 0;
      others : (i : ℕ) → (i < 8 * l.k) ⊎ (8 * l.k + 8 ≤ i) → get_or l.out i 0 ≡ get_or l.initial.out i 0;
    }
