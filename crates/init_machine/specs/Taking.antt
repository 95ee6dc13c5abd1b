-- Which events are taken, where no action runs, and which actions they begin (AOSP, init's README, "Actions" and "Triggers"). A Next
-- takes events up to the first that triggers an action. The mark stands behind the events of a boot. When it is reached, AllProperties is
-- queued behind all that is queued then, so that the property triggers are tested once during a boot (this project's profile).
use Rattle.std.specs.Prelude.{◌+◌, Bool, true, false, ◌&&◌, nat_lt, nat_le, List, [], ◌∷◌, ◌++◌, length, take, drop, map, filter, remove, slice_get, Option, Some, None, if◌then◌else◌}
use Rattle.std.specs.List.{list_any, flat_map, position_or_len}
use Rattle.init_machine.specs.declared.action.Action.{Action}
use Rattle.init_machine.specs.declared.action.Command.{Command}
use Rattle.init_machine.specs.declared.event.Event.{Event}
use Rattle.init_machine.specs.declared.event.Event.TheVariants.{Named, Change, AllProperties, Mark}
use Rattle.init_machine.specs.declared.output.Output.{Output}
use Rattle.init_machine.specs.declared.output.Output.TheVariants as output

abbrev pub is_mark : Event → Bool
is_mark (Named name) = false
is_mark (Change pair) = false
is_mark AllProperties = false
is_mark Mark = true

abbrev pub is_all_properties : Event → Bool
is_all_properties (Named name) = false
is_all_properties (Change pair) = false
is_all_properties AllProperties = true
is_all_properties Mark = false

-- Whether an event triggers an action is given by a test (`matches` of `Matches`, with the properties as they are now).

-- whether some action is triggered by this event
abbrev pub is_matched : (Event → Action → Bool) → List Action → Event → Bool
is_matched triggers actions event = list_any (triggers event) actions

-- (`position_or_len passes xs` is the least place of an element that passes, or the length where none does.)

-- whether the mark is queued, and no event before it triggers an action
abbrev pub reaches_mark : (Event → Action → Bool) → List Action → List Event → Bool
reaches_mark triggers actions events =
    nat_lt (position_or_len is_mark events) (length events)
    && nat_le (position_or_len is_mark events) (position_or_len (is_matched triggers actions) events)

-- the mark leaves, and AllProperties joins the end
abbrev pub past_mark : List Event → List Event
past_mark events = remove events (position_or_len is_mark events) ++ AllProperties ∷ []

-- the queue as events are taken from it: a mark that is reached has left, and AllProperties has joined the end
abbrev pub events_to_take : (Event → Action → Bool) → List Action → List Event → List Event
events_to_take triggers actions events = if reaches_mark triggers actions events then past_mark events else events

-- the line of an event that is taken; the mark has none
abbrev pub event_line : Event → List Output
event_line (Named name) = output.Event name ∷ []
event_line (Change pair) = output.Change pair.name pair.value ∷ []
event_line AllProperties = output.AllProperties ∷ []
event_line Mark = []

abbrev pub action_line : Action → Output
action_line action = output.Action action.file action.line

-- the actions that an event triggers, in their order
abbrev pub begun_by : (Event → Action → Bool) → List Action → Option Event → List Action
begun_by triggers actions None = []
begun_by triggers actions (Some event) = filter (triggers event) actions

-- what is taken: the lines, the events that are left, the commands of each action that begins, and whether changes of
-- properties queue events from now on
pub record Taken : Type 0 where
  pub lines : List Output
  pub events : List Event
  pub running : List (List Command)
  pub changes : Bool

-- of these events, those up to and with the first that triggers some action, or all; the actions that it triggers begin
abbrev pub taken_from : (Event → Action → Bool) → List Action → List Event → Taken
taken_from triggers actions events =
    let place = position_or_len (is_matched triggers actions) events in
    let begun = begun_by triggers actions (slice_get events place) in
    record {
      lines = flat_map event_line (take (place + 1) events) ++ map action_line begun;
      events = drop (place + 1) events;
      running = map (λ action. action.commands) begun;
      changes = list_any is_all_properties (take (place + 1) events);
    }

-- events are taken only while no action runs
unfoldable pub taken_now : (Event → Action → Bool) → List Action → List (List Command) → List Event → Taken
taken_now triggers actions [] events = taken_from triggers actions (events_to_take triggers actions events)
taken_now triggers actions (commands ∷ rest) events = record { lines = []; events = events; running = commands ∷ rest; changes = false }
