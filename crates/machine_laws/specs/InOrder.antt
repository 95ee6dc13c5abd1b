-- In which order commands run.
use Rattle.std.specs.Prelude.{◌≡◌, ℕ, ◌≤◌, Bool, true, false, List, [], ◌∷◌, ◌++◌, length, map, drop, Option, Some, None, Contains, if◌then◌else◌}
use Rattle.std.specs.List.{AllByRecursion, flat_map}
use Rattle.init_machine.specs.History.{after, inputs_of}
use Rattle.init_machine.specs.Services.{place_of, service_at}
use Rattle.init_machine.specs.State.{Opening, Rules}
use Rattle.init_machine.specs.declared.action.Action.{Action}
use Rattle.init_machine.specs.declared.action.Command.{Command}
use Rattle.init_machine.specs.declared.input.Input.{Input}
use Rattle.init_machine.specs.declared.input.Input.TheVariants as input
use Rattle.init_machine.specs.declared.output.Output.{Output}
use Rattle.init_machine.specs.declared.output.Output.TheVariants as output
use Rattle.init_machine.specs.declared.report.Entry.{Entry}
use Rattle.init_machine.specs.declared.service.ServiceDef.{ServiceDef}
use Rattle.init_machine.specs.declared.word.Word.{Word}
use Rattle.machine_laws.specs.Rebooting.{outputs_of}

-- a command by the place where it is written and its word (its line has its arguments expanded)
pub record CommandAt : Type 0 where
  pub file : List ℕ
  pub line : ℕ
  pub word : Word

abbrev pub command_at : Command → CommandAt
command_at c = record { file = c.file; line = c.line; word = c.word }

abbrev pub command_in : Output → List CommandAt
command_in (output.Command file line word args) = record { file = file; line = line; word = word } ∷ []
command_in _ = []

-- an action by the place where it is written
pub record ActionAt : Type 0 where
  pub file : List ℕ
  pub line : ℕ

abbrev pub action_at : Action → ActionAt
action_at a = record { file = a.file; line = a.line }

abbrev pub action_in : Output → List ActionAt
action_in (output.Action file line) = record { file = file; line = line } ∷ []
action_in _ = []

-- the commands that an entry ran of actions: those of a Next
abbrev pub is_next : Input → Bool
is_next input.Next = true
is_next _ = false

abbrev pub run_by : Entry → List CommandAt
run_by e = if is_next e.input then flat_map command_in e.outputs else []

-- The lines of actions are those of some actions of the configuration, and what Nexts ran are the first of the commands of
-- these actions, in order. The others are what the running actions have left.
pub record RunsInOrder (o : Opening) (history : List Entry) : Type 0 where
  pub begun : List Action
  pub of_config : AllByRecursion (Contains o.config.actions) begun
  pub lines : flat_map action_in (outputs_of history) ≡ map action_at begun
  pub commands : map command_at (flat_map (λ a. a.commands) begun)
      ≡ flat_map run_by history ++ map command_at (flat_map (λ left. left) (after o (inputs_of history)).running)

-- the commands of `onrestart` of the service of a name
abbrev pub commands_of : Option ServiceDef → List Command
commands_of None = []
commands_of (Some service) = service.onrestart

abbrev pub service_in : Rules → Option ℕ → Option ServiceDef
service_in rules None = None
service_in rules (Some at) = service_at rules at

abbrev pub onrestart_of : Rules → List ℕ → List Command
onrestart_of rules name = commands_of (service_in rules (place_of rules name))

-- the command is the first of these
abbrev pub IsFirst : List Command → CommandAt → Type 0
IsFirst [] here = ⊥
IsFirst (c ∷ rest) here = here ≡ command_at c

-- where some of the commands ran, none is left
abbrev pub IsDone : Bool → List Command → Type 0
IsDone true left = left ≡ []
IsDone false left = Unit {0}

-- Each command line is that of the first of the commands that are left. A reaping puts all those of `onrestart` of its
-- service in their place, and they run all or none.
abbrev pub FollowsReaping : Rules → Bool → List Command → List Output → Type 0
FollowsReaping rules some left [] = IsDone some left
FollowsReaping rules some left (output.Reap pid name how ∷ rest) = IsDone some left × FollowsReaping rules false (onrestart_of rules name) rest
FollowsReaping rules some left (output.Command file line word args ∷ rest) =
    IsFirst left (record { file = file; line = line; word = word }) × FollowsReaping rules true (drop 1 left) rest
FollowsReaping rules some left (_ ∷ rest) = FollowsReaping rules some left rest

-- A Next runs one command at most. Where another input runs commands, they are, in order, all those of `onrestart` of the
-- service that was reaped last before them in the entry.
abbrev pub AreInPlace : Rules → Bool → List Output → Type 0
AreInPlace rules true outputs = length (flat_map command_in outputs) ≤ 1
AreInPlace rules false outputs = FollowsReaping rules false [] outputs

abbrev pub CommandsFollow : Rules → Entry → Type 0
CommandsFollow rules e = AreInPlace rules (is_next e.input) e.outputs
