-- What is asked for by the arguments that were found.
use Rattle.std.specs.Prelude.{ℕ, Bool, List, Option, Some, None}
use Rattle.init_machine.specs.declared.task.Task.{Task}
use Rattle.init_machine.specs.declared.task.Task.TheVariants as task

-- whether an option stands before a name, and the name; none where another word stands before it
abbrev pub task_by : (Bool → List ℕ → Task) → Option (Bool × List ℕ) → Task
task_by asked None = task.BadArgument 1
task_by asked (Some found) = asked found.0 found.1

-- the path of a program
abbrev pub exec_by : Option (List ℕ) → Task
exec_by None = task.BadArgument 1
exec_by (Some path) = task.Exec path
