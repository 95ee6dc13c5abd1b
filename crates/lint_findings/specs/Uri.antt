-- Paths as references in URIs (RFC 3986): a byte that isn't unreserved, other than the slash, is `%` and two upper-case digits.
use Rattle.std.specs.Prelude.{ℕ, Bool, true, ◌==◌, ◌||◌, ◌&&◌, nat_le, List, [], ◌∷◌, ◌++◌, if◌then◌else◌}
use Rattle.std.specs.List.{flat_map}
use Rattle.init_base.specs.Quoted.{hex_byte}

abbrev pub is_letter_or_digit : ℕ → Bool
is_letter_or_digit byte =
    (nat_le 48 byte && nat_le byte 57) || (nat_le 65 byte && nat_le byte 90) || (nat_le 97 byte && nat_le byte 122)

-- letters, digits, `-`, `.`, `_`, `~` and `/`
abbrev pub is_plain : ℕ → Bool
is_plain byte = is_letter_or_digit byte || byte == 45 || byte == 46 || byte == 95 || byte == 126 || byte == 47

abbrev pub uri_byte : ℕ → List ℕ
uri_byte byte = if is_plain byte then byte ∷ [] else 37 ∷ hex_byte true byte

-- the bytes of a path behind the slash that begins it
abbrev pub without_slash : List ℕ → List ℕ
without_slash [] = []
without_slash (byte ∷ rest) = if byte == 47 then rest else byte ∷ rest

-- the path of a file behind a root; from the root on where there is none
abbrev pub uri_of : List ℕ → List ℕ → List ℕ
uri_of [] file = flat_map uri_byte (without_slash file)
uri_of (byte ∷ root) file = flat_map uri_byte (byte ∷ root) ++ flat_map uri_byte file
