use Rattle.trace_reader.proofs.Serials.{byte_more}
use Rattle.trace_reader.proofs.serial.spelled_bytes.Goals as goal

pub loop-rest-preserved : goal.loop-rest-preserved
loop-rest-preserved c =
    rw c.in_ok-push.ensures.ok
    (byte_more c.args.word.now c.loop-rest.bytes c.loop-rest.rest.now c.in_ok-spelled_byte.field-0 c.in-len2-up.len_at_least c.in_ok-spelled_byte.ensures c.loop-rest.invariant)
