-- How long tasks wait.
use Rattle.std.specs.Prelude.{Bool, true, nat_le}
use Rattle.init_machine.specs.declared.task.Task.{Task}
use Rattle.init_machine.specs.declared.task.Task.TheVariants as task

-- no wait for a file is longer than 1,000,000,000 milliseconds
abbrev pub is_brief : Task → Bool
is_brief (task.WaitForFile path within) = nat_le within.0 1000000000
is_brief other = true
