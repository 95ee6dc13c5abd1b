use Rattle.std.proofs.Common.{◌≡◌, ◌++◌}
use Rattle.rc_parse.specs.internal.Merging.{standing}
use Rattle.rc_parse.proofs.standing.filled.Given as goal

-- what is left decides
abbrev pub invariant-loop-slot : goal.invariant-loop-slot
invariant-loop-slot l = l.services ++ standing l.slot-iterator.rest.items ≡ standing l.fn.slots
