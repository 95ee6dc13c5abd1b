-- The operations that commands and control names ask for.
use Rattle.std.proofs.Common.{ℕ, Bool, true, false, List, [], ◌∷◌, Option, Some, None, if◌then◌else◌, codes}
use Rattle.std.specs.List.{list_any, after_first}
use Rattle.std.specs.Str.{bytes_eq}
use Rattle.init_machine.specs.Setting.{control_op}
use Rattle.init_machine.specs.Tasks.{task_of, first, second, optional, by_mode, wait_for, program, trigger, make_directory, is_mode, is_seconds, is_dashes, octal_of, millis_of, whole_part, fraction}
use Rattle.init_machine.specs.declared.service.Op.{Op}
use Rattle.init_machine.specs.declared.service.Op.TheVariants as op
use Rattle.init_machine.specs.declared.task.Task.{Task}
use Rattle.init_machine.specs.declared.task.Task.TheVariants as task
use Rattle.init_machine.specs.declared.task.TreeCall.{TreeCall}
use Rattle.init_machine.specs.declared.task.TreeCall.TheVariants as call
use Rattle.init_machine.specs.declared.word.Word.{Word}
use Rattle.init_machine.specs.declared.word.Word.TheVariants as word
use Rattle.machine_laws.proofs.Failures.{IfAny}
use Rattle.machine_laws.proofs.Operations.{IsAsked}

-- a task asks for no other operation
abbrev pub AsksAllowed : Task → Type 0
AsksAllowed (task.OnClass what class) = IsAsked what
AsksAllowed (task.OnService what name) = IsAsked what
AsksAllowed (task.ExecStart name) = Unit {0}
AsksAllowed (task.Exec path) = Unit {0}
AsksAllowed (task.SetProperty name value) = Unit {0}
AsksAllowed (task.Trigger name) = Unit {0}
AsksAllowed (task.WaitForProperty name value) = Unit {0}
AsksAllowed (task.WaitForFile path within) = Unit {0}
AsksAllowed task.LoadSaved = Unit {0}
AsksAllowed (task.Export name value) = Unit {0}
AsksAllowed (task.Tree asked) = Unit {0}
AsksAllowed task.Note = Unit {0}
AsksAllowed (task.BadArgument number) = Unit {0}

allowed_choice : (b : Bool) (one other : Task) → AsksAllowed one → AsksAllowed other → AsksAllowed (if b then one else other)
allowed_choice true one other left right = left
allowed_choice false one other left right = right

optional_allowed : (option : List ℕ) (asked : Bool → List ℕ → Task) → ((b : Bool) (name : List ℕ) → AsksAllowed (asked b name)) → (args : List (List ℕ)) → AsksAllowed (optional option asked args)
optional_allowed option asked each [] = each false []
optional_allowed option asked each (name ∷ []) = each false name
optional_allowed option asked each (given ∷ name ∷ rest) = allowed_choice (bytes_eq given option) (asked true name) (task.BadArgument 1) (each true name) tt

program_allowed : (args : List (List ℕ)) → AsksAllowed (program args)
program_allowed [] = tt
program_allowed (path ∷ rest) = tt

trigger_allowed : (name : List ℕ) → AsksAllowed (trigger name)
trigger_allowed [] = tt
trigger_allowed (byte ∷ rest) = tt

wait_allowed : (args : List (List ℕ)) → AsksAllowed (wait_for args)
wait_allowed [] = tt
wait_allowed (path ∷ []) = tt
wait_allowed (path ∷ seconds ∷ rest) =
    allowed_choice (is_seconds seconds) (task.WaitForFile path (record { 0 = millis_of (whole_part seconds) (fraction seconds) })) (task.BadArgument 2) tt tt

mode_allowed : (number : ℕ) (text : List ℕ) (asked : ℕ → TreeCall) → AsksAllowed (by_mode number text asked)
mode_allowed number text asked = allowed_choice (is_mode text) (task.Tree (asked (octal_of text))) (task.BadArgument number) tt tt

directory_allowed : (args : List (List ℕ)) → AsksAllowed (make_directory args)
directory_allowed [] = tt
directory_allowed (path ∷ []) = tt
directory_allowed (path ∷ mode ∷ rest) = mode_allowed 2 mode (λ m. call.MakeDirectory path m)

-- what a command asks for leaves each service its process, or spawns one
pub task_allowed : (w : Word) (args : List (List ℕ)) → AsksAllowed (task_of w args)
unfolding task_of
task_allowed word.ClassStart args = tt
task_allowed word.ClassStop args = tt
task_allowed word.ClassReset args = tt
task_allowed word.ClassRestart args = optional_allowed (codes "--only-enabled") (λ only class. task.OnClass (op.ClassRestart only) class) (λ b name. tt) args
task_allowed word.Start args = tt
task_allowed word.Stop args = tt
task_allowed word.Enable args = tt
task_allowed word.Restart args = optional_allowed (codes "--only-if-running") (λ only name. task.OnService (op.Restart only) name) (λ b name. tt) args
task_allowed word.ExecStart args = tt
task_allowed word.Exec args =
    allowed_choice (list_any is_dashes args) (program (after_first is_dashes args)) (program args) (program_allowed (after_first is_dashes args)) (program_allowed args)
task_allowed word.Setprop args = tt
task_allowed word.Trigger args = trigger_allowed (first args)
task_allowed word.WaitForProp args = tt
task_allowed word.Wait args = wait_allowed args
task_allowed word.LoadPersistProps args = tt
task_allowed word.Export args = tt
task_allowed word.Write args = tt
task_allowed word.Copy args = tt
task_allowed word.Rm args = tt
task_allowed word.Rmdir args = tt
task_allowed word.Symlink args = tt
task_allowed word.Chmod args = mode_allowed 1 (first args) (λ m. call.ChangeMode m (second args))
task_allowed word.Mkdir args = directory_allowed args
task_allowed (word.Inert noted) args = tt

asked_choice : (b : Bool) (one other : Option Op) → IfAny IsAsked one → IfAny IsAsked other → IfAny IsAsked (if b then one else other)
asked_choice true one other left right = left
asked_choice false one other left right = right

-- and so does what a control name asks for
pub control_allowed : (name : List ℕ) → IfAny IsAsked (control_op name)
control_allowed name =
    asked_choice (bytes_eq name (codes "ctl.start")) (Some op.Start)
    (if bytes_eq name (codes "ctl.stop") then Some op.Stop else (if bytes_eq name (codes "ctl.restart") then Some (op.Restart false) else None)) tt
    (asked_choice (bytes_eq name (codes "ctl.stop")) (Some op.Stop) (if bytes_eq name (codes "ctl.restart") then Some (op.Restart false) else None) tt
    (asked_choice (bytes_eq name (codes "ctl.restart")) (Some (op.Restart false)) None tt tt))
