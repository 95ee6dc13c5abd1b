use Rattle.persist_disk.proofs.Standing.{kept_after_reads}
use Rattle.persist_disk.proofs.keeper.DiskKeeper.read_chosen.Goals as goal

pub invariant_of-self : goal.invariant_of-self
invariant_of-self g c =
    kept_after_reads g.D.Disk.content g.D.Disk.TellsCrash g.D.Disk.moment g.D.Disk.MayLeave c.self.inside.disk c.read_text.new.disk c.self.inside.slot c.self.inside.chosen c.read_text.ensures.reads
    (g.met.D.Disk.earlier c.read_text.new.disk) (g.met.D.Disk.given c.read_text.new.disk) c.self.invariant

pub invariant_of-self-in-Err : goal.invariant_of-self-in-Err
invariant_of-self-in-Err g c =
    kept_after_reads g.D.Disk.content g.D.Disk.TellsCrash g.D.Disk.moment g.D.Disk.MayLeave c.self.inside.disk c.read_text.new.disk c.self.inside.slot c.self.inside.chosen c.read_text.ensures.reads
    (g.met.D.Disk.earlier c.read_text.new.disk) (g.met.D.Disk.given c.read_text.new.disk) c.self.invariant
