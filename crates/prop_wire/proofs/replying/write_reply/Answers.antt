use Rattle.std.proofs.Common.{rules}
use Rattle.wire_format.specs.Format.{word_bytes}
use Rattle.prop_wire.proofs.replying.write_reply.Goals as goal

pub returns-in-Some-clause-written : goal.returns-in-Some-clause-written
unfolding word_bytes
returns-in-Some-clause-written g c = search rules
