use Rattle.std.proofs.Common.{sym, ap, ◌∙◌, Bool, ℕ, List}
use Rattle.init_machine.specs.declared.service.Op.TheVariants as op
use Rattle.init_machine.specs.declared.task.Task.{Task}
use Rattle.init_machine.specs.declared.task.Task.TheVariants as task
use Rattle.builtins.specs.Arguments.{task_by}
use Rattle.builtins.proofs.task.restart_class.Goals as goal

abbrev asked : Bool → List ℕ → Task
asked only class = task.OnClass (op.ClassRestart only) class

pub returns-in-None : goal.returns-in-None
returns-in-None c = sym (c.in_ok-optional.ensures asked ∙ ap (task_by asked) c.in-None.is)

pub returns-in-Some : goal.returns-in-Some
returns-in-Some c = sym (c.in_ok-optional.ensures asked ∙ ap (task_by asked) c.in-Some.is)
