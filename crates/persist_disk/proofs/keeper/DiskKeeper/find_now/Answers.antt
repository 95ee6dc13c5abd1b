use Rattle.persist_disk.proofs.Standing.{kept_after_reads}
use Rattle.persist_disk.proofs.keeper.DiskKeeper.find_now.Goals as goal

pub invariant_of-self-in-Err-NoMemory : goal.invariant_of-self-in-Err-NoMemory
invariant_of-self-in-Err-NoMemory g c =
    kept_after_reads g.D.Disk.content g.D.Disk.TellsCrash g.D.Disk.moment g.D.Disk.MayLeave c.self.inside.disk c.find_synced.new.disk c.self.inside.slot c.self.inside.chosen c.in-Err-NoMemory.ensures.reads
    (g.met.D.Disk.earlier c.find_synced.new.disk) (g.met.D.Disk.given c.find_synced.new.disk) c.self.invariant
