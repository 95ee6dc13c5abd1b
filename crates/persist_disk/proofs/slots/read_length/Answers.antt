use Rattle.std.proofs.Common.{arith}
use Rattle.persist_disk.proofs.Filled.{length_read}
use Rattle.persist_disk.proofs.slots.read_length.Goals as goal

pub returns-clause-length : goal.returns-clause-length
returns-clause-length g c =
    length_read (g.D.Disk.content c.args.disk.now) c.args.at c.in_ok-count.count c.read_at.new.buf c.copy_from_slice.new.self _ c.in_ok-count.ensures.bytes (omega arith) (omega (arith, c.in_ok-count.ensures.bound.0)) c.copy_from_slice.ensures.after c.from_le_bytes.ensures
