use Rattle.std.proofs.Common.{arith}
use Rattle.persist_disk.proofs.Filled.{part_read}
use Rattle.persist_disk.proofs.slots.read_text.Goals as goal

pub returns-clause-text : goal.returns-clause-text
returns-clause-text g c =
    part_read (g.D.Disk.content c.args.disk.now) c.args.at c.args.len c.in-Ok.count c.in_ok-bytes.bytes.len c.read_at.new.buf c.in_ok-bytes.bytes.items _ c.in-Ok.ensures.bytes (omega (arith, c.in_ok-bytes.ensures.len)) (omega (arith, c.in_ok-bytes.ensures.len)) (omega (arith, c.in_ok-bytes.ensures.len)) (omega (arith, c.in-Ok.ensures.bound.0)) c.in_ok-from_vec.ensures
