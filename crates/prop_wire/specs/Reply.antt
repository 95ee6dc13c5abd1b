-- The replies to sets (bionic's protocol of the property socket).
use Rattle.std.specs.Prelude.{ℕ, List, [], Option, Some, None}
use Rattle.init_machine.specs.declared.output.Output.{Output}
use Rattle.init_machine.specs.declared.output.Output.TheVariants as output
use Rattle.init_machine.specs.declared.output.SetRefusal.{SetRefusal}
use Rattle.init_machine.specs.declared.output.SetRefusal.TheVariants as why
use Rattle.wire_format.specs.Format.{word_bytes}
use Rattle.prop_wire.specs.declared.reply.Reply.{Reply}
use Rattle.prop_wire.specs.declared.reply.Reply.TheVariants as reply

abbrev pub word_of : Reply → ℕ
word_of reply.Success = 0x00
word_of reply.ReadData = 0x08
word_of reply.ReadOnlyProperty = 0x0b
word_of reply.InvalidName = 0x10
word_of reply.InvalidValue = 0x14
word_of reply.PermissionDenied = 0x18
word_of reply.InvalidCommand = 0x1b
word_of reply.HandleControlMessage = 0x20
word_of reply.SetFailed = 0x24

-- the bytes of a reply
abbrev pub reply_bytes : Option Reply → List ℕ
reply_bytes None = []
reply_bytes (Some one) = word_bytes (word_of one)

-- the reply to a set that is refused; the machine itself refuses no set with the last two
abbrev pub refusal_reply : SetRefusal → Option Reply
refusal_reply (why.ReadOnly number) = Some reply.ReadOnlyProperty
refusal_reply why.InvalidName = Some reply.InvalidName
refusal_reply why.InvalidType = Some reply.InvalidValue
refusal_reply (why.ValueTooLong len) = Some reply.InvalidValue
refusal_reply why.NotUtf8 = Some reply.InvalidValue
refusal_reply (why.Denied context) = Some reply.PermissionDenied
refusal_reply why.UnknownControl = Some reply.HandleControlMessage
refusal_reply why.NoSuchService = Some reply.HandleControlMessage
refusal_reply (why.Down target) = Some reply.SetFailed
refusal_reply (why.AreaFull used need) = Some reply.SetFailed
refusal_reply (why.NumberSpent last) = Some reply.SetFailed
refusal_reply why.Spent = None
refusal_reply why.NoMemory = None

-- the reply that an output stands for, if it answers a set
abbrev pub output_reply : Output → Option Reply
output_reply (output.Accepted number) = Some reply.Success
output_reply (output.Control number) = Some reply.Success
output_reply (output.Refused refusal) = refusal_reply refusal
output_reply _ = None
