use Rattle.std.proofs.Common.{length}
use Rattle.prop_contexts.specs.Given.{given}
use Rattle.prop_contexts.proofs.Readings.{HasRead}
use Rattle.prop_contexts.proofs.contexts.read_contexts.Given as goal

abbrev pub invariant-loop-rest : goal.invariant-loop-rest
invariant-loop-rest l = HasRead l.text l.contexts.lines (given l.contexts) l.rest

abbrev pub decreases-loop-rest : goal.decreases-loop-rest
decreases-loop-rest l = length l.rest
