use Rattle.std.proofs.Common.{drop}
use Rattle.init_race.specs.Acting.{IsAmid}
use Rattle.init_race.proofs.actors.Stage.act_client.Given as goal

-- the requests among the acts so far were made
abbrev pub invariant-loop-act : goal.invariant-loop-act
invariant-loop-act g l = IsAmid l.self.script.now l.initial.acted l.acted (drop l.act-index l.self.script.now.acts)
