use Rattle.std.proofs.Common.{◌≡◌, ◌++◌, drop, map}
use Rattle.init_dispatch.specs.internal.Parts.{silent}
use Rattle.init_dispatch.proofs.parts.silent_parts.Given as goal

-- what is left decides
abbrev pub invariant-loop-client : goal.invariant-loop-client
invariant-loop-client l = l.parts ++ map silent (drop l.client-index l.clients) ≡ map silent l.clients
