-- How bytes lie in words: eight to a word, the first in the lowest byte, and 0 in each byte past the end; and the body of
-- a value's cell, which is what stands behind its serial. A value of at most 91 bytes has a short cell, whose body is the
-- twelve words of the value. A longer one has a long cell, whose body is a word with the length, and as many words of the
-- value as it fills.
use Rattle.std.specs.Prelude.{◌≡◌, ℕ, zero, suc, ◌+◌, ◌*◌, ◌/◌, ◌<◌, ◌≤◌, nat_le, List, drop, length, slice_index, if◌then◌else◌}
use Rattle.std.specs.Int.{w64, from_le_bytes}

-- word k of a text
unfoldable pub text_word : List ℕ → ℕ → ℕ
text_word text k = from_le_bytes w64 (drop (8 * k) text)

-- a value is at most 8,191 bytes
pub record IsValue (value : List ℕ) : Type 0 where
  pub within : length value ≤ 8191
  pub bytes : (i : ℕ) → slice_index value i < 256

-- the value of a short cell is at most 91 bytes
pub record IsShortValue (value : List ℕ) : Type 0 where
  pub short : length value ≤ 91
  pub bytes : (i : ℕ) → slice_index value i < 256

-- how many words so many bytes fill
abbrev pub words_of_len : ℕ → ℕ
words_of_len len = (len + 7) / 8

-- how many words a value's body has
unfoldable pub body_size : List ℕ → ℕ
body_size value = if nat_le (length value) 91 then 12 else 1 + words_of_len (length value)

-- word k of the body of a long cell
abbrev pub long_word : List ℕ → ℕ → ℕ
long_word value zero = length value
long_word value (suc k) = text_word value k

-- word k of a value's body
unfoldable pub body_word : List ℕ → ℕ → ℕ
body_word value k = if nat_le (length value) 91 then text_word value k else long_word value k

-- the first n of these words are those of the value's body
abbrev pub HasWords : List ℕ → ℕ → List ℕ → Type 0
HasWords words n value = (k : ℕ) → k < n → slice_index words k ≡ body_word value k

-- these words begin with the value's body
abbrev pub HasBody : List ℕ → List ℕ → Type 0
HasBody words value = HasWords words (body_size value) value

-- the first n bytes of the text are the value's
abbrev pub HasBytes : List ℕ → ℕ → List ℕ → Type 0
HasBytes text n value = (i : ℕ) → i < n → slice_index text i ≡ slice_index value i
