use Rattle.std.proofs.Common.{ap}
use Rattle.persist_disk.specs.Record.{Recorded}
use Rattle.persist_disk.specs.declared.mem_disk.DiskStep.TheVariants.{Sync}
use Rattle.persist_disk.proofs.Recording.{newest, sync_no_other, sync_safe}
use Rattle.persist_disk.proofs.mem_disk.MemDiskDisk.sync.Goals as goal

pub returns-clause-leaves : goal.returns-clause-leaves
returns-clause-leaves c = λ tells.
    let steps_are = ap (λ (r : Recorded). r.steps) c.self.view_is in
    let start_is = ap (λ (r : Recorded). r.start) c.self.view_is in
    sync_no_other c.args.self.now.start c.self.inside.start c.args.self.now.steps _ start_is (newest c.self.inside.steps c.push.new.self c.args.self.now.steps Sync c.in_ok-push.ensures.ok steps_are)

pub returns-clause-safe : goal.returns-clause-safe
returns-clause-safe c = λ tells.
    let steps_are = ap (λ (r : Recorded). r.steps) c.self.view_is in
    let start_is = ap (λ (r : Recorded). r.start) c.self.view_is in
    sync_safe c.args.self.now.start c.self.inside.start c.args.self.now.steps _ start_is (newest c.self.inside.steps c.push.new.self c.args.self.now.steps Sync c.in_ok-push.ensures.ok steps_are)
