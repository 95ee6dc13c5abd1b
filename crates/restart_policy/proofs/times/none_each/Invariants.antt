-- As many as were counted.
use Rattle.std.proofs.Common.{◌≡◌, None, replicate}
use Rattle.restart_policy.proofs.times.none_each.Given as goal

abbrev pub invariant-loop : goal.invariant-loop
invariant-loop l = l.times.items ≡ replicate l.counter None
