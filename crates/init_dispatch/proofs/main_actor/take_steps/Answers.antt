use Rattle.init_dispatch.proofs.MainActor.{steps_go_on, takes_nothing}
use Rattle.init_dispatch.proofs.main_actor.take_steps.Goals as goal

pub loop-init : goal.loop-init
loop-init g c = takes_nothing _ _

pub loop-preserved : goal.loop-preserved
loop-preserved g c = steps_go_on _ _ _ _ _ _ _ c.loop.invariant c.in_ok-reader.ensures
