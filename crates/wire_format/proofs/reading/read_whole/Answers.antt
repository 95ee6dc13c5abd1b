use Rattle.std.proofs.Common.{refl}
use Rattle.std.proofs.lemmas.List.{take_rest}
use Rattle.wire_format.proofs.Streams.{begins_at, read_front}
use Rattle.wire_format.proofs.reading.read_whole.Goals as goal

pub loop-message-preserved : goal.loop-message-preserved
loop-message-preserved c stream begins =
    begins_at stream c.loop-message.messages c.push.new.self c.loop-message.left.now _ c.in-Whole.message c.in-Whole.len
    (c.loop-message.invariant stream begins) (read_front c.loop-message.left.now c.loop-message.left.now _ c.in-Whole.message c.in-Whole.len refl c.in-Whole.is c.in_ok-message.ensures) c.in_ok-push-in-Whole.ensures.ok (take_rest c.loop-message.left.now c.in-Whole.len)
