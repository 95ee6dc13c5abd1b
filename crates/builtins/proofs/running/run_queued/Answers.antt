-- The command at the place: as it is written, or expanded first.
use Rattle.std.proofs.Common.{◌≡◌, ◌∙◌, List, ℕ, IsTrue, IfSome, OnOk, Option, subst, sym, ap}
use Rattle.std.proofs.lemmas.Result.{on_ok_weaker}
use Rattle.init_machine.specs.Effect.{effect}
use Rattle.init_machine.specs.Tasks.{first, second, task_of, trigger}
use Rattle.init_machine.specs.declared.action.Command.{Command}
use Rattle.init_machine.specs.declared.task.Task.{Task}
use Rattle.init_machine.specs.declared.task.Task.TheVariants as task
use Rattle.init_machine.specs.declared.word.Word.{Word}
use Rattle.machine_parts.specs.Parts.{Does, rules_of, state_of}
use Rattle.builtins.specs.Brief.{is_brief}
use Rattle.builtins.proofs.Brief.{brief}
use Rattle.builtins.proofs.Effects.{queued_ran}
use Rattle.builtins.proofs.running.run_queued.Goals as goal

pub finish-requires : goal.finish-requires
finish-requires g c = subst (λ (t : Task). IsTrue (is_brief t)) (sym c.in_ok-task-in_default.ensures) (brief c.command-command.result.now.word c.items-args.result.now)

pub returns-in_ok-value-in-Setprop-clause-done : goal.returns-in_ok-value-in-Setprop-clause-done
unfolding task_of
returns-in_ok-value-in-Setprop-clause-done g c =
    let a = c.args.parts.now in
    let command = c.command-command.result.now in
    let args = c.items-args.result.now in
    let name = c.in_ok-name-in-Setprop.name in
    let value = c.in_ok-value-in-Setprop.value in
    let is : task.SetProperty name value ≡ task_of command.word args =
    ap (λ (n : List ℕ). task.SetProperty n value) c.in_ok-name-in-Setprop.ensures ∙ ap (λ (v : List ℕ). task.SetProperty (first args) v) c.in_ok-value-in-Setprop.ensures
    ∙ sym (ap (λ (w : Word). task_of w args) c.in-Setprop.is) in
    subst (λ (o : Option Command). IfSome o (λ it. OnOk c.finish_set.result (Does g.S.PropStore.meaning g.S.PropStore.told g.O.Outputs.Adds a c.finish_set.new.parts (effect (rules_of a) it (state_of g.S.PropStore.meaning a)))))
    (sym c.command-command.ensures)
    (on_ok_weaker c.finish_set.result
    (queued_ran g.met.O.Outputs.joins a c.finish_set.new.parts c.add_line.new.outputs command args (task.SetProperty name value) c.items-args.ensures
    (c.stand_for_themselves.ensures c.if-not-stand_for_themselves.false _) is c.in_ok-add_line.ensures)
    c.finish_set.ensures.done)

pub returns-in_ok-event-in-Trigger-clause-done : goal.returns-in_ok-event-in-Trigger-clause-done
unfolding task_of
returns-in_ok-event-in-Trigger-clause-done g c =
    let a = c.args.parts.now in
    let command = c.command-command.result.now in
    let args = c.items-args.result.now in
    let event = c.in_ok-event-in-Trigger.event in
    let is : trigger event ≡ task_of command.word args =
    ap trigger c.in_ok-event-in-Trigger.ensures ∙ sym (ap (λ (w : Word). task_of w args) c.in-Trigger.is) in
    subst (λ (o : Option Command). IfSome o (λ it. OnOk c.finish_trigger.result (Does g.S.PropStore.meaning g.S.PropStore.told g.O.Outputs.Adds a c.finish_trigger.new.parts (effect (rules_of a) it (state_of g.S.PropStore.meaning a)))))
    (sym c.command-command.ensures)
    (on_ok_weaker c.finish_trigger.result
    (queued_ran g.met.O.Outputs.joins a c.finish_trigger.new.parts c.add_line.new.outputs command args (trigger event) c.items-args.ensures
    (c.stand_for_themselves.ensures c.if-not-stand_for_themselves.false _) is c.in_ok-add_line.ensures)
    c.finish_trigger.ensures.done)

pub returns-in_ok-task-in_default : goal.returns-in_ok-task-in_default
returns-in_ok-task-in_default g c =
    let a = c.args.parts.now in
    let command = c.command-command.result.now in
    let args = c.items-args.result.now in
    let task = c.in_ok-task-in_default.task in
    let is : task ≡ task_of command.word args = c.in_ok-task-in_default.ensures in
    record {
      done =
          subst (λ (o : Option Command). IfSome o (λ it. OnOk c.finish.result (Does g.S.PropStore.meaning g.S.PropStore.told g.O.Outputs.Adds a c.finish.new.parts (effect (rules_of a) it (state_of g.S.PropStore.meaning a)))))
          (sym c.command-command.ensures)
          (on_ok_weaker c.finish.result
          (queued_ran g.met.O.Outputs.joins a c.finish.new.parts c.add_line.new.outputs command args task c.items-args.ensures
          (c.stand_for_themselves.ensures c.if-not-stand_for_themselves.false _) is c.in_ok-add_line.ensures)
          c.finish.ensures.done);
      beside = c.finish.ensures.beside;
    }
