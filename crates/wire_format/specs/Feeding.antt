-- What a feeder makes of the pieces of a stream.
use Rattle.std.specs.Prelude.{◌≡◌, ⊤, ℕ, List, [], ◌∷◌, ◌++◌, length, Result, Ok, Err, IsTrue}
use Rattle.std.specs.List.{flat_map}
use Rattle.wire_format.specs.Wire.{front_of, is_open, no_message, unfinished, BeginsWith, Wire}
use Rattle.wire_format.specs.declared.message.Message.{Message}
use Rattle.wire_format.specs.declared.message.Rest.{Rest}
use Rattle.wire_format.specs.declared.message.Rest.TheVariants as rest
use Rattle.wire_format.specs.declared.refusal.FeedRefusal.{FeedRefusal}
use Rattle.wire_format.specs.declared.refusal.FeedRefusal.TheVariants as refusal

-- a feeder: it has the bytes of a message that isn't whole, or it reads no more
pub data Feeding : Type 0 where
  tail : List ℕ → Feeding
  over : Feeding

abbrev pub tail_len : Feeding → ℕ
tail_len (tail bytes) = length bytes
tail_len over = 0

-- the bytes are these messages, and then these bytes of one that isn't whole
pub record LeavesTail (bytes : List ℕ) (messages : List Message) (left : List ℕ) : Type 0 where
  pub begins : BeginsWith bytes messages left
  pub rests : front_of left ≡ no_message (unfinished left)

-- what a feeder answers to a piece, and what it is then
abbrev pub Feeds : Feeding → List ℕ → Result (List Message) FeedRefusal → Feeding → Type 0
Feeds over piece result after = (result ≡ Err refusal.Over) × (after ≡ over)
Feeds (tail had) piece (Ok messages) after = (left : List ℕ) × LeavesTail (had ++ piece) messages left × (after ≡ tail left)
Feeds (tail had) piece (Err (refusal.BadCommand messages word)) after = Wire (had ++ piece) messages (rest.BadCommand word) × (after ≡ over)
Feeds (tail had) piece (Err (refusal.BadLength messages len)) after = Wire (had ++ piece) messages (rest.BadLength len) × (after ≡ over)
Feeds (tail had) piece (Err refusal.Over) after = ⊥
Feeds (tail had) piece (Err refusal.NoMemory) after = after ≡ over

-- an answer that tells these messages and this rest, or that memory ran out
abbrev pub Tells : List Message → Rest → Result (List Message) FeedRefusal → Type 0
Tells messages last (Ok told) = (told ≡ messages) × IsTrue (is_open last)
Tells messages last (Err (refusal.BadCommand told word)) = (told ≡ messages) × (last ≡ rest.BadCommand word)
Tells messages last (Err (refusal.BadLength told len)) = (told ≡ messages) × (last ≡ rest.BadLength len)
Tells messages last (Err refusal.Over) = ⊥
Tells messages last (Err refusal.NoMemory) = ⊤

-- whatever the bytes so far are, that is told
abbrev pub IsOnly : Feeding → List ℕ → Result (List Message) FeedRefusal → Type 0
IsOnly over piece result = ⊤
IsOnly (tail had) piece result = (messages : List Message) (last : Rest) → Wire (had ++ piece) messages last → Tells messages last result

-- ---- pieces, one after another

-- a piece, and the messages that were answered to it
pub record Fed : Type 0 where
  pub piece : List ℕ
  pub messages : List Message

-- the stream that the pieces join to
abbrev pub bytes_of : List Fed → List ℕ
bytes_of fed = flat_map (λ one. one.piece) fed

-- all messages that were answered
abbrev pub answers_of : List Fed → List Message
answers_of fed = flat_map (λ one. one.messages) fed

-- a feeder with this tail was fed these pieces, with these answers, and was left with this tail
abbrev pub IsFedTo : List ℕ → List Fed → List ℕ → Type 0
IsFedTo had [] left = left ≡ had
IsFedTo had (one ∷ more) left = (next : List ℕ) × Feeds (tail had) one.piece (Ok one.messages) (tail next) × IsFedTo next more left
