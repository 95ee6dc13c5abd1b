use Rattle.std.proofs.Common.{replicate}
use Rattle.init_machine.specs.declared.input.Input.TheVariants as Input
use Rattle.init_dispatch.specs.internal.MainActor.{TakesInputs}
use Rattle.init_dispatch.proofs.main_actor.take_steps.Given as goal

-- so many inputs were taken
abbrev pub invariant-loop : goal.invariant-loop
invariant-loop g l = TakesInputs l.initial.service l.service l.initial.reader l.reader (replicate l.counter Input.Next)
