use Rattle.std.proofs.Common.{◌≡◌, ◌++◌, take}
use Rattle.init_machine.specs.History.{sets_in}
use Rattle.trace_audit.proofs.told.add_sets.Given as goal

-- the sets so far
abbrev pub invariant-loop-output : goal.invariant-loop-output
invariant-loop-output l = l.sets.items ≡ l.initial.sets.items ++ sets_in (take l.output-index l.outputs)
