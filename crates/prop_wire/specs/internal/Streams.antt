-- How far a stream of messages was read.
use Rattle.std.specs.Prelude.{◌≡◌, ℕ, ◌+◌, ◌<◌, ◌≤◌, ⊤, Bool, true, false, List, [], length, sum_by, Option, Some, None, Result, Ok, Err}
use Rattle.std.specs.Io.KnownBytes.{append_known, Consumes, IsAtEnd, Keeps}
use Rattle.init_trace.specs.Written.{TakesFront}
use Rattle.wire_format.specs.Feeding.{LeavesTail, Feeding, over, tail}
use Rattle.wire_format.specs.Spelling.{message_len}
use Rattle.wire_format.specs.Wire.{Wire}
use Rattle.wire_format.specs.declared.message.Message.{Message}
use Rattle.wire_format.specs.declared.message.Rest.{Rest}
use Rattle.wire_format.specs.declared.message.Rest.TheVariants as rest
use Rattle.prop_wire.specs.Limit.{max_stream}
use Rattle.prop_wire.specs.Reply.{reply_bytes}
use Rattle.prop_wire.specs.declared.refusal.WireRefusal.{WireRefusal}
use Rattle.prop_wire.specs.declared.refusal.WireRefusal.TheVariants as refusal
use Rattle.prop_wire.specs.declared.reply.Reply.{Reply}
use Rattle.prop_wire.specs.declared.reply.Reply.TheVariants as reply
use Rattle.prop_wire.specs.declared.stream.Bad.{Bad}
use Rattle.prop_wire.specs.declared.stream.Bad.TheVariants as bad

-- the bytes of whole messages
abbrev pub total_len : List Message → ℕ
total_len messages = sum_by message_len messages

-- ---- pieces

-- what reading the next piece leaves, after so many bytes were read
abbrev pub DrawsPiece : Option (List ℕ) → Option (List ℕ) → ℕ → List ℕ → Result Bool WireRefusal → Type 0
DrawsPiece old new read piece (Ok true) = Consumes old new piece × (0 < length piece) × (read + length piece ≤ max_stream)
DrawsPiece old new read piece (Ok false) = Consumes old new [] × IsAtEnd new
DrawsPiece old new read piece (Err refusal.ReadFault) = Keeps old new
DrawsPiece old new read piece (Err (refusal.TooLong taken)) =
    Consumes old new piece × (0 < length piece) × (read ≡ max_stream) × (taken ≡ max_stream + 1)
DrawsPiece old new read piece _ = ⊥

-- ---- what a feeder makes of them

abbrev pub IsTail : Feeding → Type 0
IsTail (tail bytes) = ⊤
IsTail over = ⊥

abbrev pub tail_of : Feeding → List ℕ
tail_of (tail bytes) = bytes
tail_of over = []

abbrev pub rest_of : Bad → Rest
rest_of (bad.Command word) = rest.BadCommand word
rest_of (bad.Length len) = rest.BadLength len

abbrev pub reply_to : Bad → Reply
reply_to (bad.Command word) = reply.InvalidCommand
reply_to (bad.Length len) = reply.ReadData

abbrev pub refusal_at : Bad → ℕ → WireRefusal
refusal_at (bad.Command word) at = refusal.BadCommand at word
refusal_at (bad.Length len) at = refusal.BadLength at len

-- the bytes are these messages, and then less than a message, which is kept, or something bad
abbrev pub ReadsPiece : List ℕ → List Message → Option Bad → Feeding → Type 0
ReadsPiece bytes messages None after = (left : List ℕ) × LeavesTail bytes messages left × (after ≡ tail left)
ReadsPiece bytes messages (Some found) after = Wire bytes messages (rest_of found)

-- ---- something bad

-- the sink took the reply to what is bad, and the stream is refused for it; or a write was refused
abbrev pub EndsWith : Bad → ℕ → Option (List ℕ) → Option (List ℕ) → WireRefusal → Type 0
EndsWith found at old new refusal.WriteFault = TakesFront old new (reply_bytes (Some (reply_to found)))
EndsWith found at old new refusal.NoMemory = TakesFront old new (reply_bytes (Some (reply_to found)))
EndsWith found at old new why = (why ≡ refusal_at found at) × (new ≡ append_known old (reply_bytes (Some (reply_to found))))

abbrev pub Refuses : {T : Type 0} → Option Bad → ℕ → Option (List ℕ) → Option (List ℕ) → Result T WireRefusal → Type 0
Refuses None at old new (Ok value) = new ≡ old
Refuses None at old new (Err why) = ⊥
Refuses (Some found) at old new (Ok value) = ⊥
Refuses (Some found) at old new (Err why) = EndsWith found at old new why
