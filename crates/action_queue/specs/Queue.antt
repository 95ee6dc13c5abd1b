-- The queue: the events that wait, the actions that run, and what is taken from it.
use Rattle.std.specs.Prelude.{◌≡◌, ℕ, Bool, true, false, ◌||◌, ◌&&◌, List, [], ◌∷◌, slice_get, Option, Some, None}
use Rattle.std.specs.List.{list_all}
use Rattle.init_base.specs.Name.{is_legal_name}
use Rattle.init_machine.specs.Matches.{matches}
use Rattle.init_machine.specs.Props.{Props}
pub use Rattle.init_machine.specs.Props.{value_in}
use Rattle.init_machine.specs.Step.{left_of}
use Rattle.init_machine.specs.Taking.{Taken, taken_now}
use Rattle.init_machine.specs.declared.action.Action.{Action}
use Rattle.init_machine.specs.declared.action.Command.{Command}
use Rattle.init_machine.specs.declared.action.CommandRef.{CommandRef}
use Rattle.init_machine.specs.declared.action.PropTest.{PropTest}
use Rattle.init_machine.specs.declared.event.Event.{Event}

-- the actions that may run, the events that wait, the actions that run, in their order, each by the commands that it has
-- left, and whether changes of properties queue events
pub record QueueView : Type 0 where
  pub actions : List Action
  pub events : List Event
  pub running : List (List Command)
  pub changes : Bool

abbrev pub first_queue : List Action → QueueView
first_queue actions = record { actions = actions; events = []; running = []; changes = false }

-- Which actions a queue is made of: each has a command, and tests properties of legal names.

abbrev pub has_commands : List Command → Bool
has_commands [] = false
has_commands (command ∷ rest) = true

abbrev pub has_legal_name : PropTest → Bool
has_legal_name test = is_legal_name test.name

abbrev pub is_well_formed : Action → Bool
is_well_formed action = has_commands action.commands && list_all has_legal_name action.props

-- what is taken, with the properties as they are
abbrev pub taken_in : Props → QueueView → Taken
taken_in props q = taken_now (matches (value_in props)) q.actions q.running q.events

-- the queue when that was taken
abbrev pub with_taken : QueueView → Taken → QueueView
with_taken q t = record q { events = t.events; running = t.running; changes = q.changes || t.changes }

-- the running actions when the next command of the first one was taken; an action whose last command was taken leaves
abbrev pub without_first : List (List Command) → List (List Command)
without_first [] = []
without_first ([] ∷ rest) = rest
without_first ((command ∷ commands) ∷ rest) = left_of commands rest

-- the queue when that was taken, and then a command
abbrev pub queue_after : QueueView → Taken → QueueView
queue_after q t = record q { events = t.events; running = without_first t.running; changes = q.changes || t.changes }

-- The places of commands among actions.

abbrev pub commands_of : Option Action → List Command
commands_of None = []
commands_of (Some action) = action.commands

abbrev pub commands_at : List Action → ℕ → List Command
commands_at actions at = commands_of (slice_get actions at)

abbrev pub command_at : List Action → CommandRef → Option Command
command_at actions place = slice_get (commands_at actions place.action) place.command

-- the place is that of the first command that the first running action has left
pub record IsNext (actions : List Action) (running : List (List Command)) (place : CommandRef) : Type 0 where
  pub command : Command
  pub commands : List Command
  pub others : List (List Command)
  pub runs : running ≡ (command ∷ commands) ∷ others
  pub placed : command_at actions place ≡ Some command
