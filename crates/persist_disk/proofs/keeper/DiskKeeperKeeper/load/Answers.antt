use Rattle.persist_disk.proofs.Texts.{own_left}
use Rattle.persist_disk.proofs.keeper.DiskKeeperKeeper.load.Goals as goal

pub returns-clause-own : goal.returns-clause-own
returns-clause-own g c =
    own_left (g.D.Disk.content c.args.self.now.disk) (g.D.Disk.content c.stand.new.self.disk) c.args.self.now.slot c.args.self.now.own_faults c.stand.new.self.own_faults c.read_chosen.new.self.own_faults
    (λ formatted. (c.stand.ensures.kept formatted).content_is) c.in-Ok.ensures.rest.own c.read_chosen.ensures.own
