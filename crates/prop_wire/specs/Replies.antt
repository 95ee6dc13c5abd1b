-- The replies to the messages of a client.
use Rattle.std.specs.Prelude.{ℕ, List, [], ◌∷◌, ◌++◌, Option, Some, None, option_and_then, if◌then◌else◌}
use Rattle.init_machine.specs.History.{after}
use Rattle.init_machine.specs.State.{Opening}
use Rattle.init_machine.specs.Step.{step}
use Rattle.init_machine.specs.declared.input.Input.{Input}
use Rattle.init_machine.specs.declared.output.Output.{Output}
use Rattle.property_area.specs.Readers.{last_of}
use Rattle.property_service.specs.Service.{set_by}
use Rattle.wire_format.specs.declared.message.Message.{Message}
use Rattle.wire_format.specs.declared.message.Rest.{Rest}
use Rattle.wire_format.specs.declared.message.Rest.TheVariants as rest
use Rattle.prop_wire.specs.Reply.{output_reply, reply_bytes}
use Rattle.prop_wire.specs.declared.reply.Reply.{Reply}
use Rattle.prop_wire.specs.declared.reply.Reply.TheVariants as reply

-- the set that a message of a client is
abbrev pub set_of : ℕ → Message → Input
set_of who message = set_by who message.name message.value

-- the reply to a set with these outputs is that of the last one
abbrev pub reply_in : List Output → Option Reply
reply_in outputs = option_and_then output_reply (last_of outputs)

-- the reply to a message whose set has these outputs: form one has none
abbrev pub reply_for : Message → List Output → Option Reply
reply_for message outputs = if message.second then reply_in outputs else None

-- what is written for messages of a client, which are set one after another after these inputs
abbrev pub message_replies : Opening → List Input → ℕ → List Message → List ℕ
message_replies o inputs who [] = []
message_replies o inputs who (message ∷ more) =
    reply_bytes (reply_for message (step o.config o.policy (after o inputs) (set_of who message)).lines)
    ++ message_replies o (inputs ++ set_of who message ∷ []) who more

-- what is written for the rest of a stream
abbrev pub rest_reply : Rest → List ℕ
rest_reply rest.End = []
rest_reply (rest.Torn have) = []
rest_reply (rest.BadCommand word) = reply_bytes (Some reply.InvalidCommand)
rest_reply (rest.BadLength len) = reply_bytes (Some reply.ReadData)

-- what is written for a stream of these messages and this rest
abbrev pub Replies : Opening → List Input → ℕ → List Message → Rest → List ℕ
Replies o inputs who messages last = message_replies o inputs who messages ++ rest_reply last
