-- How a stream is served piece by piece.
use Rattle.std.specs.Prelude.{◌≡◌, ℕ, ◌+◌, ◌<◌, ◌≤◌, ⊤, Bool, true, false, IsSomeAnd, List, [], ◌++◌, length, Option, Some, None, Result, Ok, Err}
use Rattle.std.specs.Io.KnownBytes.{Consumes, IsAtEnd}
use Rattle.atomic_table.specs.Seated.{TableId}
use Rattle.init_base.specs.declared.outside.refusal.IoRefusal.{IoRefusal}
use Rattle.init_base.specs.declared.outside.refusal.IoRefusal.TheVariants as io
use Rattle.property_area.specs.Seats.{Seated}
use Rattle.property_service.specs.Service.{DeclaredIn, ServiceView}
use Rattle.wire_format.specs.Feeding.{LeavesTail, tail}
use Rattle.wire_format.specs.declared.message.Message.{Message}
use Rattle.wire_format.specs.declared.message.Rest.TheVariants as rest
use Rattle.prop_wire.specs.Desk.{IsSameClient, SetsMessage}
use Rattle.prop_wire.specs.Limit.{max_stream}
use Rattle.prop_wire.specs.Serving.{Answers, Place, Serves}
use Rattle.prop_wire.specs.internal.Streams.{tail_of}
use Rattle.prop_wire.specs.declared.refusal.WireRefusal.{WireRefusal}
use Rattle.prop_wire.specs.declared.refusal.WireRefusal.TheVariants as refusal
use Rattle.prop_wire.specs.declared.reply.Reply.{Reply}
use Rattle.prop_wire.specs.declared.stream.Stream.{Stream}

-- ---- the client's reader, which the desk has while it sets a message

-- the reader is there; it is of this area, and of a client that its opening declares
abbrev pub CanAsk : TableId → Option Seated → Type 0
CanAsk area None = ⊥
CanAsk area (Some reader) = (reader.table ≡ area) × DeclaredIn reader.view.opening reader.view.who

abbrev pub who_in : Option Seated → ℕ
who_in None = 0
who_in (Some reader) = reader.view.who

abbrev pub IsBack : Option Seated → Option Seated → Type 0
IsBack None back = ⊥
IsBack (Some reader) back = IsSomeAnd back (IsSameClient reader)

-- a message was set for the client of the reader
abbrev pub SetsFor : ServiceView → ServiceView → Option Seated → Option Seated → Message → Option Reply → Type 0
SetsFor old new None back message reply = ⊥
SetsFor old new (Some reader) back message reply = SetsMessage old new reader back message reply

-- the reader is back and the desk isn't spent, unless memory ran out
abbrev pub Remains : {T : Type 0} → Result T IoRefusal → Option Seated → Option Seated → Bool → Type 0
Remains (Ok value) reader back spent = IsBack reader back × (spent ≡ false)
Remains (Err io.Failed) reader back spent = IsBack reader back × (spent ≡ false)
Remains (Err io.NoMemory) reader back spent = ⊤

abbrev pub RemainsServing : {T : Type 0} → Result T WireRefusal → Option Seated → Option Seated → Bool → Type 0
RemainsServing (Err refusal.Spent) reader back spent = ⊤
RemainsServing (Err refusal.NoMemory) reader back spent = ⊤
RemainsServing _ reader back spent = IsBack reader back × (spent ≡ false)

-- ---- a piece

-- The piece was answered, and the stream goes on after it.
pub record GoesBehind (who : ℕ) (old new : Stream) (a b : Place) : Type 0 where
  pub messages : List Message
  pub left : List ℕ
  pub leaves : LeavesTail (tail_of old.feeder ++ old.piece) messages left
  pub feeder : new.feeder ≡ tail left
  pub read : new.read ≡ old.read
  pub whole : new.whole + length left ≡ new.read
  pub count : new.messages ≡ old.messages + length messages
  pub few : new.messages ≤ new.whole
  pub answers : Answers true who messages rest.End a b

-- a refusal for which a piece may end a stream
abbrev pub ComesOfPiece : WireRefusal → Type 0
ComesOfPiece refusal.Spent = ⊥
ComesOfPiece (refusal.BadCommand at word) = ⊤
ComesOfPiece (refusal.BadLength at len) = ⊤
ComesOfPiece (refusal.TooLong taken) = ⊥
ComesOfPiece (refusal.Torn at) = ⊥
ComesOfPiece refusal.ReadFault = ⊥
ComesOfPiece refusal.WriteFault = ⊤
ComesOfPiece refusal.NoMemory = ⊤

-- a piece of a stream was answered, or ended it
abbrev pub AnswersPiece : {T : Type 0} → ℕ → Stream → Stream → Place → Place → Result T WireRefusal → Type 0
AnswersPiece who old new a b (Ok value) = GoesBehind who old new a b
AnswersPiece who old new a b (Err why) = ComesOfPiece why × Serves who old.whole (tail_of old.feeder ++ old.piece) a b (Err why)

-- ---- all pieces

-- the bytes that are served are all that the source had, or all before one that is too many
abbrev pub DrawsAll : Option (List ℕ) → List ℕ → List ℕ → Result ℕ WireRefusal → Type 0
DrawsAll new given more (Ok count) = (more ≡ []) × IsAtEnd new
DrawsAll new given more (Err (refusal.Torn at)) = (more ≡ []) × IsAtEnd new
DrawsAll new given more (Err (refusal.TooLong taken)) = (0 < length more) × (length given ≡ max_stream)
DrawsAll new given more (Err refusal.Spent) = ⊥
DrawsAll new given more _ = ⊤

-- these bytes of the source were served
pub record ServesSource (old new : Option (List ℕ)) (who : ℕ) (a b : Place) (result : Result ℕ WireRefusal) : Type 0 where
  pub given : List ℕ
  pub more : List ℕ
  pub consumed : Consumes old new (given ++ more)
  pub within : length given ≤ max_stream
  pub all : DrawsAll new given more result
  pub serves : Serves who 0 given a b result
