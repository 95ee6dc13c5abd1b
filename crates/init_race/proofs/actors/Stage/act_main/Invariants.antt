use Rattle.std.proofs.Common.{drop}
use Rattle.init_race.specs.Acting.{IsAmidInputs}
use Rattle.init_race.proofs.actors.Stage.act_main.Given as goal

-- the inputs of the acts so far were asked
abbrev pub invariant-loop-act : goal.invariant-loop-act
invariant-loop-act g l = IsAmidInputs l.self.script.now l.initial.reader l.reader (drop l.act-index l.self.script.now.acts)
