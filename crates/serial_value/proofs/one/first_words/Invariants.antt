use Rattle.std.proofs.Common.{◌≡◌, ℕ, ◌+◌, ◌<◌, length, get_or}
use Rattle.init_machine.specs.Serial.{top_byte, clean_serial}
use Rattle.serial_value.specs.Words.{body_word}
use Rattle.serial_value.proofs.one.first_words.Given as goal

abbrev pub invariant-loop-k : goal.invariant-loop-k
invariant-loop-k l =
    record {
      wide : length l.words ≡ 29;
      serial : get_or l.words 16 0 ≡ clean_serial (top_byte l.value) 1;
      done : (k : ℕ) → k < l.k → get_or l.words (17 + k) 0 ≡ body_word l.value k;
    }
