-- What one word of a trace tells.
use Rattle.std.specs.Prelude.{ℕ, ◌+◌, ◌-◌, ◌*◌, ◌&&◌, nat_le, if◌then◌else◌, List, [], ◌∷◌, map, Option, Some, None}
use Rattle.std.specs.Int.{w64, from_be_bytes}
use Rattle.init_base.specs.Quoted.{unquoted}
use Rattle.init_machine.specs.declared.diagnostic.DiagKind.{DiagKind}
use Rattle.init_machine.specs.declared.output.FsRefusal.{FsRefusal}
use Rattle.script_lang.specs.Statements.{number_in, with_two}
use Rattle.trace_reader.specs.Reading.{bind, choose}
use Rattle.trace_reader.specs.declared.word.TheConstants.{KINDS, TREE_REFUSALS}

-- a number of at most 64 bits
abbrev pub large_in : List ℕ → Option ℕ
large_in word = number_in 0 18446744073709551615 word

-- a number of at most 32 bits
abbrev pub small_in : List ℕ → Option ℕ
small_in word = number_in 0 4294967295 word

abbrev pub kind_in : List ℕ → Option DiagKind
kind_in word = choose (map (λ row. (row.0.now, row.1)) KINDS) word

abbrev pub tree_in : List ℕ → Option FsRefusal
tree_in word = choose (map (λ row. (row.0.now, row.1)) TREE_REFUSALS) word

abbrev pub texts_in : List (List ℕ) → Option (List (List ℕ))
texts_in [] = Some []
texts_in (word ∷ words) = with_two (λ text texts. text ∷ texts) (unquoted word) (texts_in words)

-- the value of a lower-case hexadecimal digit
abbrev pub digit_in : ℕ → Option ℕ
digit_in digit =
    if nat_le 48 digit && nat_le digit 57 then Some (digit - 48)
    else if nat_le 97 digit && nat_le digit 102 then Some (digit - 97 + 10)
    else None

-- the byte with these two lower-case digits
abbrev pub byte_in : ℕ → ℕ → Option ℕ
byte_in high low = with_two (λ high low. 16 * high + low) (digit_in high) (digit_in low)

abbrev pub bytes_in : List ℕ → Option (List ℕ)
bytes_in [] = Some []
bytes_in (high ∷ []) = None
bytes_in (high ∷ low ∷ rest) = with_two (λ byte bytes. byte ∷ bytes) (byte_in high low) (bytes_in rest)

-- eight bytes, the highest first
abbrev pub serial_of : List ℕ → Option ℕ
serial_of (a ∷ b ∷ c ∷ d ∷ e ∷ f ∷ g ∷ h ∷ []) = Some (from_be_bytes w64 (a ∷ b ∷ c ∷ d ∷ e ∷ f ∷ g ∷ h ∷ []))
serial_of _ = None

abbrev pub serial_in : List ℕ → Option ℕ
serial_in word = bind (bytes_in word) serial_of
