-- What a stream of bytes is: messages, and a rest.
use Rattle.std.specs.Prelude.{◌≡◌, ⊤, ℕ, ◌+◌, ◌<◌, ◌≤◌, ◌==◌, Bool, true, false, nat_lt, if◌then◌else◌, List, [], ◌∷◌, length, drop, slice_range}
use Rattle.wire_format.specs.Format.{first, second, field_text, word_from}
use Rattle.wire_format.specs.declared.message.Message.{Message}
use Rattle.wire_format.specs.declared.message.Rest.{Rest}
use Rattle.wire_format.specs.declared.message.Rest.TheVariants as rest
use Rattle.wire_format.specs.declared.shape.Shape.{Shape}
use Rattle.wire_format.specs.declared.shape.Shape.TheVariants as shape

-- ---- what the words at the front say, of a stream with so many bytes

abbrev pub first_shape : ℕ → Shape
first_shape have = if nat_lt have 128 then shape.Wants 128 else shape.First

-- by the length of the name and of the value
abbrev pub value_shape : ℕ → ℕ → ℕ → Shape
value_shape have name value =
    if nat_lt have (12 + name) then shape.Wants (12 + name)
    else if nat_lt 8192 value then shape.BadLength value
    else if nat_lt have (12 + name + value) then shape.Wants (12 + name + value)
    else shape.Second name value

abbrev pub second_shape : ℕ → ℕ → ℕ → Shape
second_shape have name value =
    if nat_lt have 8 then shape.Wants 8
    else if nat_lt 1024 name then shape.BadLength name
    else value_shape have name value

-- by the command
abbrev pub shape_by : ℕ → ℕ → ℕ → ℕ → Shape
shape_by have command name value =
    if nat_lt have 4 then shape.Wants 4
    else if command == first then first_shape have
    else if command == second then second_shape have name value
    else shape.BadCommand command

abbrev pub shape_of : List ℕ → Shape
shape_of bytes = shape_by (length bytes) (word_from bytes 0) (word_from bytes 4) (word_from bytes (8 + word_from bytes 4))

-- a whole message lies within so many bytes, and more of them are wanted than there are
abbrev pub IsThere : ℕ → Shape → Type 0
IsThere have shape.First = 128 ≤ have
IsThere have (shape.Second name value) = 12 + name + value ≤ have
IsThere have (shape.Wants len) = (have < len) × (len ≤ 9228)
IsThere have (shape.BadCommand word) = ⊤
IsThere have (shape.BadLength len) = ⊤

-- the front is cut off: it takes more bytes to say what it is
abbrev pub waits : Shape → Bool
waits shape.First = false
waits (shape.Second name value) = false
waits (shape.Wants len) = true
waits (shape.BadCommand word) = false
waits (shape.BadLength len) = false

-- ---- what is at the front

-- a whole message and the bytes behind it, or no message
pub data Front : Type 0 where
  whole : Message → List ℕ → Front
  no_message : Rest → Front

abbrev pub first_message : List ℕ → Message
first_message bytes = record {
  second = false;
  name = field_text (slice_range bytes 4 36);
  value = field_text (slice_range bytes 36 128);
}

-- by the lengths of its texts
abbrev pub second_message : List ℕ → ℕ → ℕ → Message
second_message bytes name value = record {
  second = true;
  name = slice_range bytes 8 (8 + name);
  value = slice_range bytes (12 + name) (12 + name + value);
}

-- bytes that are less than a message
abbrev pub unfinished : List ℕ → Rest
unfinished [] = rest.End
unfinished (byte ∷ bytes) = rest.Torn (length (byte ∷ bytes))

-- more bytes may make it a message
abbrev pub is_open : Rest → Bool
is_open rest.End = true
is_open (rest.Torn have) = true
is_open (rest.BadCommand word) = false
is_open (rest.BadLength len) = false

abbrev pub front_by : Shape → List ℕ → Front
front_by shape.First bytes = whole (first_message bytes) (drop 128 bytes)
front_by (shape.Second name value) bytes = whole (second_message bytes name value) (drop (12 + name + value) bytes)
front_by (shape.Wants len) bytes = no_message (unfinished bytes)
front_by (shape.BadCommand word) bytes = no_message (rest.BadCommand word)
front_by (shape.BadLength len) bytes = no_message (rest.BadLength len)

unfoldable pub front_of : List ℕ → Front
front_of bytes = front_by (shape_of bytes) bytes

-- ---- the stream

-- the bytes are these messages, one behind another, and then what is left
abbrev pub BeginsWith : List ℕ → List Message → List ℕ → Type 0
BeginsWith bytes [] left = bytes ≡ left
BeginsWith bytes (message ∷ more) left = (next : List ℕ) × (front_of bytes ≡ whole message next) × BeginsWith next more left

-- the bytes are these messages and a rest, whose first byte begins no whole message
pub record Wire (bytes : List ℕ) (messages : List Message) (rest : Rest) : Type 0 where
  pub left : List ℕ
  pub begins : BeginsWith bytes messages left
  pub rests : front_of left ≡ no_message rest
