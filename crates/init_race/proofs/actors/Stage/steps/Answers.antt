use Rattle.init_race.proofs.ActingEnds.{steps_go_on}
use Rattle.init_race.proofs.Steps.{asks_nothing}
use Rattle.init_race.proofs.actors.Stage.steps.Goals as goal

pub loop-init : goal.loop-init
loop-init g c = asks_nothing _

pub loop-preserved : goal.loop-preserved
loop-preserved g c = steps_go_on _ _ _ _ c.loop.invariant c.in_ok-reader.ensures
