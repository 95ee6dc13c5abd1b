use Rattle.std.proofs.Common.{subst}
use Rattle.init_base.specs.Keeping.{LoadsHeld}
use Rattle.persist_disk.specs.Keeping.{late_text, DiskStore}
use Rattle.persist_disk.proofs.FirstTexts.{loads_first}
use Rattle.persist_disk.proofs.late.LateKeeperKeeper.load.Goals as goal

pub returns-clause-text : goal.returns-clause-text
returns-clause-text g c =
    let store = c.self.inside.store in
    subst (λ (k : DiskStore g.row.D.Denot g.row.P.Denot). LoadsHeld (late_text g.D.Disk.content g.P.Keeper.held k) c.args.limit c.peek.result) c.self.view_is
    (loads_first store.is_silent store.slot c.args.limit (g.D.Disk.content store.disk) (g.P.Keeper.held store.former) c.peek.result c.peek.ensures.text c.peek.ensures.former)
