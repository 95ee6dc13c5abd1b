use Rattle.std.proofs.Common.{replicate}
use Rattle.init_machine.specs.declared.input.Input.TheVariants as Input
use Rattle.init_race.specs.Acting.{AsksInputs}
use Rattle.init_race.proofs.actors.Stage.steps.Given as goal

-- so many inputs were asked
abbrev pub invariant-loop : goal.invariant-loop
invariant-loop g l = AsksInputs l.initial.reader l.reader (replicate l.counter Input.Next)
