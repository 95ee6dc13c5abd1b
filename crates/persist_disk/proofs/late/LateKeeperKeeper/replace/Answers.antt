use Rattle.std.proofs.Common.{subst}
use Rattle.init_base.specs.Crash.{LeavesOneMore}
use Rattle.init_base.specs.Keeping.{HoldsNew}
use Rattle.persist_disk.specs.Keeping.{late_text, DiskStore, StoreLeaves, StoreTells}
use Rattle.persist_disk.proofs.FirstTexts.{holds_first}
use Rattle.persist_disk.proofs.late.LateKeeperKeeper.replace.Goals as goal

pub returns-clause-leaves : goal.returns-clause-leaves
returns-clause-leaves g c =
    subst (λ (k : DiskStore g.row.D.Denot g.row.P.Denot). StoreTells g.D.Disk.TellsCrash g.D.Disk.content k → LeavesOneMore (g.D.Disk.moment k.disk) (StoreLeaves g.D.Disk.MayLeave k) (StoreLeaves g.D.Disk.MayLeave c.replace.new.self) c.args.content.now)
    c.self.view_is c.replace.ensures.leaves

pub returns-clause-held : goal.returns-clause-held
returns-clause-held g c =
    let store = c.self.inside.store in
    let after = c.replace.new.self in
    subst (λ (k : DiskStore g.row.D.Denot g.row.P.Denot). HoldsNew (late_text g.D.Disk.content g.P.Keeper.held k) (late_text g.D.Disk.content g.P.Keeper.held after) c.replace.result c.args.content.now) c.self.view_is
    (holds_first store.is_silent after.is_silent store.slot after.slot (g.D.Disk.content store.disk) (g.D.Disk.content after.disk) (g.P.Keeper.held store.former) (g.P.Keeper.held after.former) c.replace.result c.args.content.now
    c.replace.ensures.held c.replace.ensures.first)
