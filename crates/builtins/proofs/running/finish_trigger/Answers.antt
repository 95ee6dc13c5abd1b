-- The event, and the line of its ending.
use Rattle.init_machine.specs.Effect.{perform}
use Rattle.init_machine.specs.Tasks.{trigger}
use Rattle.machine_parts.specs.Parts.{rules_of, state_of}
use Rattle.machine_parts.proofs.Doing.{on_ok_both}
use Rattle.builtins.proofs.Effects.{ends_as}
use Rattle.builtins.proofs.running.finish_trigger.Goals as goal

pub returns-clause-done : goal.returns-clause-done
returns-clause-done g c =
    let a = c.args.parts.now in
    on_ok_both c.end_command.result
    (ends_as g.met.O.Outputs.joins a c.trigger_named.new.parts c.end_command.new.outputs c.end_command.new.waits c.in_ok-ending.ending
    (perform (rules_of a) (trigger c.args.event) (state_of g.S.PropStore.meaning a)) c.in_ok-ending.ensures.did c.in_ok-ending.ensures.ending)
    c.end_command.ensures.waits c.end_command.ensures.lines
