use Rattle.std.proofs.Common.{refl}
use Rattle.init_dispatch.proofs.Served.{all_served, nobody_served}
use Rattle.init_dispatch.proofs.running.serve.Goals as goal

pub returns-then-is_empty : goal.returns-then-is_empty
returns-then-is_empty g c = nobody_served g.N.AreaName.area c.args.service c.args.sessions c.new.result (c.if-is_empty.ensures.0 refl) c.new.ensures

pub returns-in-Ok : goal.returns-in-Ok
returns-in-Ok g c =
    all_served g.N.AreaName.area c.args.service c.in-Ok.field-0.service c.args.sessions c.in-Ok.field-0.readers c.in-Ok.field-0.verdicts
    c.in-Ok.ensures.relayed c.in-Ok.ensures.readers
