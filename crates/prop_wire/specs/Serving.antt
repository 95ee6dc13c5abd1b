-- What serving a stream of messages leaves.
use Rattle.std.specs.Prelude.{◌≡◌, ℕ, ◌+◌, ◌<◌, ◌≤◌, ⊤, Bool, true, false, IsTrue, IsSomeAnd, List, ◌++◌, length, map, Option, Result, Ok, Err}
use Rattle.std.specs.Io.KnownBytes.{append_known}
use Rattle.init_machine.specs.History.{inputs_of}
use Rattle.init_machine.specs.declared.report.Entry.{Entry}
use Rattle.property_area.specs.Seats.{Seated}
use Rattle.property_service.specs.Service.{ServiceView}
use Rattle.wire_format.specs.Wire.{Wire, is_open}
use Rattle.wire_format.specs.declared.message.Message.{Message}
use Rattle.wire_format.specs.declared.message.Rest.{Rest}
use Rattle.wire_format.specs.declared.message.Rest.TheVariants as rest
use Rattle.prop_wire.specs.Desk.{IsSameClient}
use Rattle.prop_wire.specs.Limit.{max_stream}
use Rattle.prop_wire.specs.Replies.{Replies, set_of}
use Rattle.prop_wire.specs.declared.refusal.WireRefusal.{WireRefusal}
use Rattle.prop_wire.specs.declared.refusal.WireRefusal.TheVariants as refusal

-- whether serving went on to its end: no fault stopped it, and memory didn't run out
abbrev pub is_whole : Result ℕ WireRefusal → Bool
is_whole (Ok count) = true
is_whole (Err refusal.Spent) = false
is_whole (Err (refusal.BadCommand at word)) = true
is_whole (Err (refusal.BadLength at len)) = true
is_whole (Err (refusal.TooLong taken)) = true
is_whole (Err (refusal.Torn at)) = true
is_whole (Err refusal.ReadFault) = false
is_whole (Err refusal.WriteFault) = false
is_whole (Err refusal.NoMemory) = false

-- all of a list, or else a prefix of it
abbrev pub IsPart : {X : Type 0} → Bool → List X → List X → Type 0
IsPart true part all = part ≡ all
IsPart {X} false part all = (left : List X) × (part ++ left ≡ all)

-- The history gained the client's sets of these messages, or else of a prefix of them, each once and in order.
pub record AddsSets (whole : Bool) (who : ℕ) (messages : List Message) (old new : ServiceView) : Type 0 where
  pub set : List Message
  pub part : IsPart whole set messages
  pub added : List Entry
  pub history : new.history ≡ old.history ++ added
  pub inputs : inputs_of added ≡ map (set_of who) set
  pub opening : new.opening ≡ old.opening

-- the sink took these bytes, or else a prefix of them
pub record TakesBytes (whole : Bool) (bytes : List ℕ) (before now : Option (List ℕ)) : Type 0 where
  pub written : List ℕ
  pub part : IsPart whole written bytes
  pub taken : now ≡ append_known before written

-- a desk, and the bytes that the sink took, if they are known
pub record Place : Type 0 where
  pub desk : ServiceView
  pub taken : Option (List ℕ)

abbrev pub place_of : ServiceView → Option (List ℕ) → Place
place_of desk taken = record { desk = desk; taken = taken }

-- The client's messages were set, and the replies to them and to this rest were written; or else prefixes of both. If the desk is spent
-- now, nothing is said of its sets.
pub record Answers (whole : Bool) (who : ℕ) (messages : List Message) (last : Rest) (old new : Place) : Type 0 where
  pub sets : new.desk.spent ≡ false → AddsSets whole who messages old.desk new.desk
  pub replies : TakesBytes whole (Replies old.desk.opening (inputs_of old.desk.history) who messages last) old.taken new.taken

-- the result says how the stream ends: its messages, its rest, and the place at which the rest begins
abbrev pub TellsEnd : List Message → Rest → ℕ → Result ℕ WireRefusal → Type 0
TellsEnd messages last place (Ok count) = (last ≡ rest.End) × (count ≡ length messages)
TellsEnd messages last place (Err (refusal.BadCommand at word)) = (last ≡ rest.BadCommand word) × (at ≡ place)
TellsEnd messages last place (Err (refusal.BadLength at len)) = (last ≡ rest.BadLength len) × (at ≡ place)
TellsEnd messages last place (Err (refusal.TooLong taken)) = IsTrue (is_open last) × (taken ≡ max_stream + 1)
TellsEnd messages last place (Err (refusal.Torn at)) = (have : ℕ) × (last ≡ rest.Torn have) × (at ≡ place)
TellsEnd messages last place (Err refusal.Spent) = ⊤
TellsEnd messages last place (Err refusal.ReadFault) = ⊤
TellsEnd messages last place (Err refusal.WriteFault) = ⊤
TellsEnd messages last place (Err refusal.NoMemory) = ⊤

-- The bytes that come after so many of a stream were served: they are messages and a rest, the client was answered, and the result says
-- how they end.
pub record Serves (who : ℕ) (before : ℕ) (bytes : List ℕ) (old new : Place) (result : Result ℕ WireRefusal) : Type 0 where
  pub messages : List Message
  pub last : Rest
  pub wire : Wire bytes messages last
  pub place : ℕ
  pub place_is : place + length wire.left ≡ before + length bytes
  pub end : TellsEnd messages last place result
  pub answers : Answers (is_whole result) who messages last old new

-- the result says whether the source held more bytes than are served, unless something bad came first
abbrev pub TellsLimit : List ℕ → Result ℕ WireRefusal → Type 0
TellsLimit held (Ok count) = length held ≤ max_stream
TellsLimit held (Err (refusal.BadCommand at word)) = ⊤
TellsLimit held (Err (refusal.BadLength at len)) = ⊤
TellsLimit held (Err (refusal.TooLong taken)) = max_stream < length held
TellsLimit held (Err (refusal.Torn at)) = length held ≤ max_stream
TellsLimit held (Err refusal.Spent) = ⊤
TellsLimit held (Err refusal.ReadFault) = ⊤
TellsLimit held (Err refusal.WriteFault) = ⊤
TellsLimit held (Err refusal.NoMemory) = ⊤

-- the desk and the reader can go on, unless memory ran out
abbrev pub GoesOn : Seated → Option Seated → ServiceView → Result ℕ WireRefusal → Type 0
GoesOn reader back desk (Err refusal.Spent) = ⊤
GoesOn reader back desk (Err refusal.NoMemory) = ⊤
GoesOn reader back desk _ = IsSomeAnd back (IsSameClient reader) × (desk.spent ≡ false)
