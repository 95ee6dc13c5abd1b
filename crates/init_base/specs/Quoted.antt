-- The q form of a text, this project's own spelling, in which texts stand in scripts and traces. It has no space and no
-- LF, and isn't empty.
use Rattle.std.specs.Prelude.{ℕ, ◌+◌, ◌-◌, ◌*◌, ◌/◌, ◌%◌, Bool, true, not, ◌&&◌, ◌==◌, nat_le, nat_lt, List, [], ◌∷◌, ◌++◌, Option, Some, None, if◌then◌else◌}
use Rattle.std.specs.Fmt.{digit_glyph}
use Rattle.std.specs.List.{flat_map, list_all}
use Rattle.std.specs.Str.{bytes_eq}

-- the bytes that stand for themselves: hexadecimal 21 to 7E, other than `%`
abbrev pub is_plain : ℕ → Bool
is_plain byte = nat_le 33 byte && nat_le byte 126 && not (byte == 37)

-- a byte as two hexadecimal digits, upper-case or lower-case
abbrev pub hex_byte : Bool → ℕ → List ℕ
hex_byte upper byte = digit_glyph upper (byte / 16) ∷ digit_glyph upper (byte % 16) ∷ []

-- each other byte is `%` and two upper-case hexadecimal digits
abbrev pub quoted_byte : ℕ → List ℕ
quoted_byte byte = if is_plain byte then byte ∷ [] else 37 ∷ hex_byte true byte

-- the q form of a text: the empty text is `%`
unfoldable pub quoted : List ℕ → List ℕ
quoted [] = 37 ∷ []
quoted (byte ∷ rest) = flat_map quoted_byte (byte ∷ rest)

-- ---- reading

-- the value of an upper-case hexadecimal digit
abbrev pub hex_value : ℕ → ℕ
hex_value digit = if nat_lt digit 58 then digit - 48 else digit - 55

-- where a byte of a word stands: between spelled bytes, behind a `%`, or behind a `%` and a digit of this value
pub data Place : Type 0 where
  between : Place
  behind_sign : Place
  behind_digit : ℕ → Place

abbrev pub next_place : Place → ℕ → Place
next_place between byte = if byte == 37 then behind_sign else between
next_place behind_sign byte = behind_digit (hex_value byte)
next_place (behind_digit high) byte = between

-- what a byte at a place ends the spelling of
abbrev pub spelled_at : Place → ℕ → List ℕ
spelled_at between byte = if byte == 37 then [] else byte ∷ []
spelled_at behind_sign byte = []
spelled_at (behind_digit high) byte = (16 * high + hex_value byte) ∷ []

abbrev pub spelled_from : Place → List ℕ → List ℕ
spelled_from place [] = []
spelled_from place (byte ∷ rest) = spelled_at place byte ++ spelled_from (next_place place byte) rest

-- the text that a word spells; it needn't be the word's q form
abbrev pub spelled : List ℕ → List ℕ
spelled word = spelled_from between word

abbrev pub is_byte : ℕ → Bool
is_byte number = nat_lt number 256

-- the text whose q form a word is. None where it is no q form: where a byte is spelled that stands for itself, or one
-- stands for itself that must be spelled, or a byte isn't spelled as it must be
unfoldable pub unquoted : List ℕ → Option (List ℕ)
unquoted word =
    if list_all is_byte (spelled word) && bytes_eq (quoted (spelled word)) word then Some (spelled word) else None
