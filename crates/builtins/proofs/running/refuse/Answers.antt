-- The line, and the line of the failure.
use Rattle.std.proofs.Common.{refl}
use Rattle.init_machine.specs.Effect.{command_line, end_command, fails}
use Rattle.init_machine.specs.declared.task.Done.TheVariants as done
use Rattle.machine_parts.specs.Parts.{state_of}
use Rattle.machine_parts.proofs.Doing.{does_nothing, on_ok_both}
use Rattle.builtins.proofs.Effects.{ends_as, told_first}
use Rattle.builtins.proofs.running.refuse.Goals as goal

pub returns-clause-done : goal.returns-clause-done
returns-clause-done g c =
    let a = c.args.parts.now in
    let said = c.add_line.new.outputs in
    let mid = record a { outputs = said } in
    let failed = fails c.args.why (state_of g.S.PropStore.meaning a) in
    let new = record mid { waits = c.end_command.new.waits; outputs = c.end_command.new.outputs } in
    on_ok_both c.end_command.result
    (λ waits line. told_first g.met.O.Outputs.joins a new said (command_line c.args.command c.args.command.args) (end_command failed) c.in_ok-add_line.ensures refl
    (ends_as g.met.O.Outputs.joins mid mid c.end_command.new.outputs c.end_command.new.waits (done.Failed c.args.why) failed (does_nothing g.met.O.Outputs.joins mid) refl waits line))
    c.end_command.ensures.waits c.end_command.ensures.lines
