use Rattle.std.proofs.Common.{length}
use Rattle.prop_contexts.proofs.AllowReadings.{HasReadPairs}
use Rattle.prop_contexts.proofs.allows.read_allows.Given as goal

abbrev pub invariant-loop-rest : goal.invariant-loop-rest
invariant-loop-rest l = HasReadPairs l.text l.number l.allows l.rest

abbrev pub decreases-loop-rest : goal.decreases-loop-rest
decreases-loop-rest l = length l.rest
