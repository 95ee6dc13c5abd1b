use Rattle.trace_audit.specs.Indexed.{IsIndexed}
use Rattle.trace_audit.proofs.sets.Sets.of.Given as goal

-- each name has its places among the sets so far
abbrev pub invariant-loop-place : goal.invariant-loop-place
invariant-loop-place l = IsIndexed l.fn.pairs.items l.place l.names l.places.items
