use Rattle.prop_dispatch.proofs.Ended.{dispatched_of}
use Rattle.prop_dispatch.proofs.dispatching.end.Goals as goal

pub returns-clause-dispatched : goal.returns-clause-dispatched
returns-clause-dispatched g c old sessions all =
    dispatched_of g.N.AreaName.area old sessions c.args.worker.service c.args.worker.seats.items c.in-Ok.readers c.in-Ok.verdicts all
    c.in-Ok.ensures.readers c.in-Ok.ensures.verdicts c.history.ensures.agrees
