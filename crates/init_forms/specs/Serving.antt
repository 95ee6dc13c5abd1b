-- How the serving of a stream of messages ends, and what it writes.
use Rattle.std.specs.Prelude.{◌≡◌, ℕ, ◌+◌, ◌≤◌, List, nat_lt, if◌then◌else◌, length, Option}
use Rattle.std.specs.Io.KnownBytes.{append_known}
use Rattle.init_machine.specs.State.{Opening}
use Rattle.init_machine.specs.declared.limit.Limit.TheVariants as limits
use Rattle.init_trace.specs.Written.{TakesFront}
use Rattle.init_wire.specs.Served.{booted, client}
use Rattle.job_reader.specs.declared.status.Status.{Status}
use Rattle.job_reader.specs.declared.status.Status.TheVariants as status
use Rattle.prop_wire.specs.Limit.{max_stream, stream_of}
use Rattle.prop_wire.specs.Replies.{Replies}
use Rattle.wire_format.specs.Wire.{Wire}
use Rattle.wire_format.specs.declared.message.Message.{Message}
use Rattle.wire_format.specs.declared.message.Rest.{Rest}
use Rattle.wire_format.specs.declared.message.Rest.TheVariants as rest

-- a stream of so many bytes has too many of them, or else it ends so
abbrev pub unless_too_long : ℕ → Status → Status
unless_too_long many how = if nat_lt max_stream many then status.TooLarge limits.ScriptBytes (max_stream + 1) else how

-- the status after a stream of so many bytes, by what follows its whole messages at this place
abbrev pub stream_status : Rest → ℕ → ℕ → Status
stream_status rest.End place many = unless_too_long many status.Done
stream_status (rest.Torn have) place many = unless_too_long many (status.BadWire place)
stream_status (rest.BadCommand word) place many = status.BadWire place
stream_status (rest.BadLength len) place many = status.BadWire place

-- The status after a stream, and all replies to it: the machine has booted, and each message is a set by its one client.
pub record IsAnsweredStream (o : Opening) (bytes : List ℕ) (how : Status) (replies : List ℕ) : Type 0 where
  pub messages : List Message
  pub last : Rest
  pub wire : Wire (stream_of bytes) messages last
  pub place : ℕ
  pub place_is : place + length wire.left ≡ length (stream_of bytes)
  pub how_is : how ≡ stream_status last place (length bytes)
  pub replies_are : replies ≡ Replies o booted client messages last

-- some of the replies to a stream are written
pub record CutsReplies (o : Opening) (bytes : List ℕ) (old new : Option (List ℕ)) : Type 0 where
  pub how : Status
  pub replies : List ℕ
  pub stream : IsAnsweredStream o bytes how replies
  pub written : TakesFront old new replies

-- all of them are, and this is the status
pub record WritesReplies (o : Opening) (bytes : List ℕ) (old new : Option (List ℕ)) (how : Status) : Type 0 where
  pub replies : List ℕ
  pub stream : IsAnsweredStream o bytes how replies
  pub written : new ≡ append_known old replies

-- what serving a stream writes
abbrev pub PerformsWire : Opening → List ℕ → Option (List ℕ) → Option (List ℕ) → Status → Type 0
PerformsWire o bytes old new status.ReadFault = CutsReplies o bytes old new
PerformsWire o bytes old new status.WriteFault = CutsReplies o bytes old new
PerformsWire o bytes old new status.NoMemory = CutsReplies o bytes old new
PerformsWire o bytes old new how = WritesReplies o bytes old new how

-- a stream that is served to its end: messages, and nothing after them
pub record AreMessages (bytes : List ℕ) : Type 0 where
  pub messages : List Message
  pub wire : Wire bytes messages rest.End
  pub short : length bytes ≤ max_stream
