use Rattle.std.proofs.Common.{◌≤◌, arith}
use Rattle.init_race.proofs.ActingEnds.{some_through}
use Rattle.init_race.proofs.actors.Stage.act.Goals as goal

pub returns-else-who-eq0 : goal.returns-else-who-eq0
returns-else-who-eq0 g c =
    let least : 1 ≤ c.args.reader.view.who = omega (arith, c.who.ensures) in
    some_through c.args.self.now.script.now c.args.reader c.act_client.result least c.act_client.ensures
