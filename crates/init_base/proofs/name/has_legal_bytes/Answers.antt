use Rattle.std.proofs.Common.{arith, get_or}
use Rattle.init_base.proofs.NameBytes.{byte_more, kind_small, past_more}
use Rattle.init_base.proofs.name.has_legal_bytes.Goals as goal

pub loop-byte-preserved : goal.loop-byte-preserved
loop-byte-preserved c = record {
  left = byte_more c.args.bytes.now c.loop-byte.byte-index c.loop-byte.seen c.loop-byte.before c.kind_of-kind.result _
      (omega arith) c.kind_of-kind.ensures c.loop-byte.invariant.past c.loop-byte.invariant.left;
  small = omega (arith, kind_small (get_or c.args.bytes.now c.loop-byte.byte-index 0));
  past = past_more c.loop-byte.seen c.loop-byte.before c.kind_of-kind.result;
}
