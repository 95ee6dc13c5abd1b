use Rattle.std.proofs.Common.{◌≡◌, ◌++◌, drop}
use Rattle.trace_audit.specs.Lists.{bounds_by}
use Rattle.trace_audit.proofs.told.Told.bounds_of.Given as goal

-- what is left decides
abbrev pub invariant-loop-request : goal.invariant-loop-request
invariant-loop-request l = l.bounds.items ++ bounds_by l.who (drop l.request-index l.fn.self.requests.items) ≡ bounds_by l.who l.fn.self.requests.items
