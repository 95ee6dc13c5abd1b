use Rattle.std.proofs.Common.{ap}
use Rattle.prop_dispatch.proofs.Moves.{takes}
use Rattle.prop_dispatch.proofs.worker.work.Goals as goal

pub try_pop_as-requires-clause-rule : goal.try_pop_as-requires-clause-rule
try_pop_as-requires-clause-rule g c = takes _ _ (ap (λ v. v.gets) c.loop.invariant.1)
