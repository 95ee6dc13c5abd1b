use Rattle.std.proofs.Common.{◌≡◌, ℕ, ◌+◌, ◌<◌, ◌≤◌, length, get_or}
use Rattle.serial_value.proofs.words.cut_word.Given as goal

abbrev pub invariant-loop-j : goal.invariant-loop-j
invariant-loop-j l =
    record {
      wide : length l.bytes ≡ 8;
      done : (i : ℕ) → i < l.j → get_or l.bytes i 0 ≡ get_or l.text (l.start + i) 0;
      left : (i : ℕ) → l.j ≤ i → get_or l.bytes i 0 ≡ 0;
    }
