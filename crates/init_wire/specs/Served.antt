-- What serving a stream of messages writes.
use Rattle.std.specs.Prelude.{◌≡◌, ℕ, ◌+◌, List, [], ◌∷◌, length, Option, Result}
use Rattle.init_machine.specs.State.{Opening}
use Rattle.init_machine.specs.declared.input.Input.{Input}
use Rattle.init_machine.specs.declared.input.Input.TheVariants as input
use Rattle.prop_wire.specs.Limit.{stream_of}
use Rattle.prop_wire.specs.Replies.{Replies}
use Rattle.prop_wire.specs.Serving.{TakesBytes, TellsEnd, TellsLimit, is_whole}
use Rattle.prop_wire.specs.declared.refusal.WireRefusal.{WireRefusal}
use Rattle.wire_format.specs.Wire.{Wire}
use Rattle.wire_format.specs.declared.message.Message.{Message}
use Rattle.wire_format.specs.declared.message.Rest.{Rest}

-- the number of the client whose messages are served
abbrev pub client : ℕ
client = 1

-- the inputs before the first message
abbrev pub booted : List Input
booted = input.Boot ∷ []

-- The bytes of a stream are messages and a rest. The result says how they end, and the replies to them were written: each message is a set
-- by the client, after the machine has booted. If a fault or the end of memory stopped it, only a part of the replies was written.
pub record IsAnswered (o : Opening) (bytes : List ℕ) (before now : Option (List ℕ)) (result : Result ℕ WireRefusal) : Type 0 where
  pub messages : List Message
  pub last : Rest
  pub wire : Wire (stream_of bytes) messages last
  pub place : ℕ
  pub place_is : place + length wire.left ≡ length (stream_of bytes)
  pub end : TellsEnd messages last place result
  pub limit : TellsLimit bytes result
  pub written : TakesBytes (is_whole result) (Replies o booted client messages last) before now
