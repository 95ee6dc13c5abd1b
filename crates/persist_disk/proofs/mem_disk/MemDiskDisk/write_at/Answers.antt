use Rattle.std.proofs.Common.{ap}
use Rattle.persist_disk.specs.Record.{Recorded}
use Rattle.persist_disk.specs.declared.mem_disk.DiskStep.TheVariants.{Write}
use Rattle.persist_disk.proofs.Recording.{newest, write_torn}
use Rattle.persist_disk.proofs.mem_disk.MemDiskDisk.write_at.Goals as goal

pub returns-clause-leaves : goal.returns-clause-leaves
returns-clause-leaves c = λ tells.
    let steps_are = ap (λ (r : Recorded). r.steps) c.self.view_is in
    let start_is = ap (λ (r : Recorded). r.start) c.self.view_is in
    write_torn c.args.self.now.start c.self.inside.start c.args.self.now.steps _ start_is c.args.at c.in_ok-bytes.bytes c.args.bytes.now c.in_ok-bytes.ensures
    (newest c.self.inside.steps c.push.new.self c.args.self.now.steps (Write c.args.at c.in_ok-bytes.bytes) c.in_ok-push.ensures.ok steps_are)
