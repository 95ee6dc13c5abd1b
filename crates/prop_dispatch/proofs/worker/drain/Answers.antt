use Rattle.std.proofs.Common.{ap}
use Rattle.prop_dispatch.proofs.Moves.{takes, learns}
use Rattle.prop_dispatch.proofs.worker.drain.Goals as goal

pub pop_as-requires-clause-rule : goal.pop_as-requires-clause-rule
pop_as-requires-clause-rule g c = (takes _ _ (ap (λ v. v.gets) c.loop.invariant.1), learns _ _ (ap (λ v. v.gets) c.loop.invariant.1))
