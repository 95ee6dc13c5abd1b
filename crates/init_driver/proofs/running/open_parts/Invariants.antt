use Rattle.std.proofs.Common.{◌≡◌, take}
use Rattle.init_driver.specs.Readings.{empty_parts}
use Rattle.init_driver.proofs.running.open_parts.Given as goal

-- the parts of the clients so far
abbrev pub invariant-loop-client : goal.invariant-loop-client
invariant-loop-client l = l.parts.items ≡ empty_parts (take l.client-index l.clients)
