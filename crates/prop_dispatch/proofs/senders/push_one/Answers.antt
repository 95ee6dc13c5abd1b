use Rattle.prop_dispatch.proofs.Moves.{puts}
use Rattle.std.proofs.Common.{rules}
use Rattle.prop_dispatch.proofs.senders.push_one.Goals as goal

pub try_push_as-requires-clause-rule : goal.try_push_as-requires-clause-rule
try_push_as-requires-clause-rule g c = puts _ _ _ _ (search rules) (search rules)
