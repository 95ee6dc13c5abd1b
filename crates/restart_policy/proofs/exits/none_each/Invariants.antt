-- As many as were counted.
use Rattle.std.proofs.Common.{◌≡◌, map, replicate}
use Rattle.init_machine.specs.State.{no_exits}
use Rattle.restart_policy.specs.Exits.{counted_of}
use Rattle.restart_policy.proofs.exits.none_each.Given as goal

abbrev pub invariant-loop : goal.invariant-loop
invariant-loop l = map counted_of l.exits.items ≡ replicate l.counter no_exits
