use Rattle.persist_disk.proofs.Standing.{safe_after_reads}
use Rattle.persist_disk.proofs.slots.find_synced.Goals as goal

pub returns-in-Ok-clause-safe : goal.returns-in-Ok-clause-safe
returns-in-Ok-clause-safe g c = λ tells.
    safe_after_reads g.D.Disk.content g.D.Disk.TellsCrash g.D.Disk.moment g.D.Disk.MayLeave c.sync.new.self c.find.new.disk c.find.ensures.reads
    (g.met.D.Disk.earlier c.find.new.disk) (g.met.D.Disk.given c.find.new.disk) (c.sync.ensures.tells.0 tells) (c.in_ok-sync.ensures.safe tells)
