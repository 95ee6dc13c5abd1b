-- The two forms of a message, and which texts fit them. Words have 32 bits, lowest byte first.
use Rattle.std.specs.Prelude.{ℕ, ◌+◌, ◌-◌, ◌==◌, Bool, not, ◌&&◌, nat_lt, nat_le, if◌then◌else◌, List, ◌++◌, length, take, replicate, slice_range, Option, Some, None}
use Rattle.std.specs.Int.{w32, from_le_bytes, to_le_bytes}
use Rattle.std.specs.List.{before_first, list_any}
use Rattle.wire_format.specs.declared.message.Message.{Message}

-- ---- words

unfoldable pub word_bytes : ℕ → List ℕ
word_bytes number = to_le_bytes w32 number

-- the word that begins at a place
unfoldable pub word_from : List ℕ → ℕ → ℕ
word_from bytes at = from_le_bytes w32 (slice_range bytes at (at + 4))

-- the commands
abbrev pub first : ℕ
first = 1

abbrev pub second : ℕ
second = 131073

-- ---- form one: the command, 32 bytes for the name, 92 for the value

abbrev pub is_zero : ℕ → Bool
is_zero byte = byte == 0

-- the text in a field ends before the first zero, and the last byte counts as zero
abbrev pub field_text : List ℕ → List ℕ
field_text field = before_first is_zero (take (length field - 1) field)

abbrev pub fits_field : ℕ → List ℕ → Bool
fits_field size text = nat_lt (length text) size && not (list_any is_zero text)

-- a text, filled up with zeros
abbrev pub padded : ℕ → List ℕ → List ℕ
padded size text = text ++ replicate (size - length text) 0

-- ---- form two: the command, and each text behind its length

abbrev pub behind_length : List ℕ → List ℕ
behind_length text = word_bytes (length text) ++ text

-- ---- both

-- the texts fit the form
abbrev pub fits_form : Message → Bool
fits_form message =
    if message.second then nat_le (length message.name) 1024 && nat_le (length message.value) 8192
    else fits_field 32 message.name && fits_field 92 message.value

-- the bytes of a message whose texts fit its form
abbrev pub message_bytes : Message → List ℕ
message_bytes message =
    if message.second then word_bytes second ++ behind_length message.name ++ behind_length message.value
    else word_bytes first ++ padded 32 message.name ++ padded 92 message.value

abbrev pub encoded : Message → Option (List ℕ)
encoded message = if fits_form message then Some (message_bytes message) else None
