-- What of a queue changes: what it stands for, and what taking one event does to it.
use Rattle.std.specs.Prelude.{◌≡◌, ℕ, ◌+◌, ◌<◌, ◌≤◌, Bool, true, false, IsTrue, nat_lt, List, [], ◌∷◌, ◌++◌, length, drop, map, filter, slice_get, Option, Some, None, if◌then◌else◌}
use Rattle.std.specs.List.{list_all, flat_map}
use Rattle.init_machine.specs.Taking.{Taken, event_line, action_line, is_all_properties, is_mark}
use Rattle.init_machine.specs.declared.action.Action.{Action}
use Rattle.init_machine.specs.declared.action.Command.{Command}
use Rattle.init_machine.specs.declared.event.Event.{Event}
use Rattle.init_machine.specs.declared.event.Event.TheVariants.{AllProperties, Mark}
use Rattle.init_machine.specs.declared.output.Output.{Output}
use Rattle.action_queue.specs.Queue.{QueueView, commands_at, is_well_formed}
use Rattle.action_queue.specs.declared.pending.Pending.{Pending}

-- The actions that run are the begun ones from the first that still runs on. Of this one some commands were taken.

abbrev pub left_in : List Action → ℕ → List ℕ → List (List Command)
left_in actions taken [] = []
left_in actions taken (at ∷ rest) = drop taken (commands_at actions at) ∷ map (commands_at actions) rest

abbrev pub running_of : List Action → Pending → List (List Command)
running_of actions p = left_in actions p.command (drop p.first p.begun)

abbrev pub shown : List Action → Pending → QueueView
shown actions p = record { actions = actions; events = p.events; running = running_of actions p; changes = p.changes }

-- each place is that of an action
abbrev pub are_places : List Action → List ℕ → Bool
are_places actions places = list_all (λ at. nat_lt at (length actions)) places

-- the first one has more commands than were taken
abbrev pub HasMore : List Action → ℕ → List ℕ → Type 0
HasMore actions taken [] = taken ≡ 0
HasMore actions taken (at ∷ rest) = taken < length (commands_at actions at)

abbrev pub mark_count : List Event → ℕ
mark_count [] = 0
mark_count (event ∷ rest) = (if is_mark event then 1 else 0) + mark_count rest

-- the actions are well formed, the begun ones are there, the first that runs has a command left, and at most one mark waits
pub record IsKept (actions : List Action) (p : Pending) : Type 0 where
  pub well_formed : IsTrue (list_all is_well_formed actions)
  pub places : are_places actions p.begun ≡ true
  pub more : HasMore actions p.command (drop p.first p.begun)
  pub lone : mark_count p.events ≤ 1

-- the places, from a number on, of the actions that pass
abbrev pub places_from : ℕ → (Action → Bool) → List Action → List ℕ
places_from n passes [] = []
places_from n passes (action ∷ rest) = if passes action then n ∷ places_from (n + 1) passes rest else places_from (n + 1) passes rest

abbrev pub passes : (Action → Bool) → Option Action → Bool
passes test None = false
passes test (Some action) = test action

-- whether the action at a place passes
abbrev pub passes_at : (Action → Bool) → List Action → ℕ → Bool
passes_at test actions at = passes test (slice_get actions at)

abbrev pub line_of : Option Action → List Output
line_of None = []
line_of (Some action) = action_line action ∷ []

-- the lines of the actions at these places
abbrev pub lines_at : List Action → List ℕ → List Output
lines_at actions places = flat_map (λ at. line_of (slice_get actions at)) places

-- What taking one event does: the mark gives way to AllProperties, and another event's actions begin.

abbrev pub one_begun : (Event → Action → Bool) → List Action → Event → List Event → Taken
one_begun triggers actions event rest = record {
  lines = event_line event ++ map action_line (filter (triggers event) actions);
  events = rest;
  running = map (λ action. action.commands) (filter (triggers event) actions);
  changes = is_all_properties event;
}

abbrev pub one_taken : (Event → Action → Bool) → List Action → Event → List Event → Taken
one_taken triggers actions Mark rest = record { lines = []; events = rest ++ AllProperties ∷ []; running = []; changes = false }
one_taken triggers actions event rest = one_begun triggers actions event rest
