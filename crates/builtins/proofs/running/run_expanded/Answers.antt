-- The line, what the task does, and the line of its ending.
use Rattle.std.proofs.Common.{◌∷◌, [], IsTrue, subst, sym, ap, refl, ◌∙◌}
use Rattle.std.proofs.lemmas.Result.{on_ok_weaker}
use Rattle.init_machine.specs.Changes.{behind}
use Rattle.init_machine.specs.Effect.{Ran, command_line, end_command, perform}
use Rattle.init_machine.specs.Tasks.{task_of}
use Rattle.init_machine.specs.declared.task.Task.{Task}
use Rattle.machine_parts.specs.Parts.{Does, rules_of, state_of}
use Rattle.builtins.specs.Brief.{is_brief}
use Rattle.builtins.proofs.Brief.{brief}
use Rattle.builtins.proofs.Effects.{told_first}
use Rattle.builtins.proofs.running.run_expanded.Goals as goal

pub finish-requires : goal.finish-requires
finish-requires g c = subst (λ (t : Task). IsTrue (is_brief t)) (sym c.in_ok-task.ensures) (brief c.args.command.word c.items.result.now)

pub returns-clause-done : goal.returns-clause-done
returns-clause-done g c =
    let a = c.args.parts.now in
    let said = command_line c.args.command c.args.command.args in
    let ran : Task → Ran = λ task. perform (rules_of a) task (state_of g.S.PropStore.meaning a) in
    on_ok_weaker c.finish.result
    (λ done. subst (λ (task : Task). Does g.S.PropStore.meaning g.S.PropStore.told g.O.Outputs.Adds a c.finish.new.parts (behind (said ∷ []) (end_command (ran task))))
    (c.in_ok-task.ensures ∙ ap (task_of c.args.command.word) c.items.ensures)
    (told_first g.met.O.Outputs.joins a c.finish.new.parts c.add_line.new.outputs said (end_command (ran c.in_ok-task.task)) c.in_ok-add_line.ensures refl done))
    c.finish.ensures.done
