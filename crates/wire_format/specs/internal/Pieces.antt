-- How a piece is read behind the bytes before it.
use Rattle.std.specs.Prelude.{◌≡◌, ℕ, ◌<◌, ◌≤◌, List, length, drop, IsTrue}
use Rattle.wire_format.specs.Wire.{front_of, is_open, no_message, whole, BeginsWith}
use Rattle.wire_format.specs.declared.message.Message.{Message}
use Rattle.wire_format.specs.declared.message.Rest.{Rest}
use Rattle.wire_format.specs.declared.reading.Front.{Front}
use Rattle.wire_format.specs.declared.reading.Front.TheVariants as front

-- what is at the front of bytes
abbrev pub IsFront : List ℕ → Front → Type 0
IsFront bytes (front.Whole message len) = (front_of bytes ≡ whole message (drop len bytes)) × (0 < len) × (len ≤ length bytes)
IsFront bytes (front.Rest rest) = front_of bytes ≡ no_message rest

-- the stream is these messages and this rest, whose bytes are the tail unless it is bad
pub record ReadsOn (stream : List ℕ) (messages : List Message) (tail : List ℕ) (rest : Rest) : Type 0 where
  pub left : List ℕ
  pub begins : BeginsWith stream messages left
  pub rests : front_of left ≡ no_message rest
  pub kept : IsTrue (is_open rest) → tail ≡ left
