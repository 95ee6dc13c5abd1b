-- The set, and the line of its ending.
use Rattle.init_machine.specs.Effect.{perform}
use Rattle.init_machine.specs.declared.task.Task.TheVariants as task
use Rattle.machine_parts.specs.Parts.{rules_of, state_of}
use Rattle.machine_parts.proofs.Doing.{on_ok_both}
use Rattle.builtins.proofs.Effects.{ends_as}
use Rattle.builtins.proofs.running.finish_set.Goals as goal

pub returns-clause-done : goal.returns-clause-done
unfolding perform
returns-clause-done g c =
    let a = c.args.parts.now in
    on_ok_both c.end_command.result
    (ends_as g.met.O.Outputs.joins a c.set_property-ending.new.parts c.end_command.new.outputs c.end_command.new.waits c.in_ok-ending.field-0
    (perform (rules_of a) (task.SetProperty c.args.name c.args.value) (state_of g.S.PropStore.meaning a)) c.in_ok-ending.ensures.did c.in_ok-ending.ensures.ending)
    c.end_command.ensures.waits c.end_command.ensures.lines
