use Rattle.std.proofs.Common.{◌≡◌, map, take}
use Rattle.trace_audit.specs.Audited.{client_of}
use Rattle.trace_audit.proofs.clients.clients_of.Given as goal

-- the clients so far
abbrev pub invariant-loop-part : goal.invariant-loop-part
invariant-loop-part l = l.clients.items ≡ map (λ part. client_of part) (take l.part-index l.parts)
