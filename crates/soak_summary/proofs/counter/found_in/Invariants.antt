use Rattle.std.proofs.Common.{◌≡◌, take}
use Rattle.soak_summary.specs.Counting.{found_in}
use Rattle.soak_summary.proofs.counter.found_in.Given as goal

abbrev pub invariant-loop-client : goal.invariant-loop-client
invariant-loop-client l = l.found ≡ found_in (take l.client-index l.clients)
