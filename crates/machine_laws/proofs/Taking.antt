-- The lines of events that are taken, and of the actions that they begin.
use Rattle.std.proofs.Common.{ℕ, ◌+◌, Bool, List, [], ◌∷◌, take, map, slice_get}
use Rattle.std.specs.List.{flat_map, position_or_len}
use Rattle.init_machine.specs.Taking.{taken_now, taken_from, events_to_take, event_line, action_line, begun_by, is_matched}
use Rattle.init_machine.specs.State.{State, Rules}
use Rattle.init_machine.specs.declared.action.Action.{Action}
use Rattle.init_machine.specs.declared.action.Command.{Command}
use Rattle.init_machine.specs.declared.event.Event.{Event}
use Rattle.init_machine.specs.declared.event.Event.TheVariants.{Named, Change, AllProperties, Mark}
use Rattle.init_machine.specs.declared.output.Output.{Output}
use Rattle.init_machine.specs.declared.output.Output.TheVariants as output
use Rattle.machine_laws.proofs.Relation.{Sets}

-- the lines of events and actions
pub data IsTaking : Output → Type 0 where
  event : (name : List ℕ) → IsTaking (output.Event name)
  change : (name value : List ℕ) → IsTaking (output.Change name value)
  all : IsTaking output.AllProperties
  action : (file : List ℕ) (line : ℕ) → IsTaking (output.Action file line)

module _ (rules : Rules) (R : State → List Output → State → Type 0) (sets : Sets rules R) (taking : (s : State) (o : Output) → IsTaking o → R s (o ∷ []) s) where
  before : (s : State) (o : Output) (lines : List Output) → IsTaking o → R s lines s → R s (o ∷ lines) s
  before s o lines is did = sets.joined s s s (o ∷ []) lines (taking s o is) did

  events_by : (s : State) (events : List Event) → R s (flat_map event_line events) s
  events_by s [] = sets.none s
  events_by s (Named name ∷ events) = before s (output.Event name) (flat_map event_line events) (event name) (events_by s events)
  events_by s (Change p ∷ events) = before s (output.Change p.name p.value) (flat_map event_line events) (change p.name p.value) (events_by s events)
  events_by s (AllProperties ∷ events) = before s output.AllProperties (flat_map event_line events) all (events_by s events)
  events_by s (Mark ∷ events) = events_by s events

  actions_by : (s : State) (actions : List Action) → R s (map action_line actions) s
  actions_by s [] = sets.none s
  actions_by s (a ∷ actions) = before s (action_line a) (map action_line actions) (action a.file a.line) (actions_by s actions)

  from_by : (s : State) (triggers : Event → Action → Bool) (actions : List Action) (events : List Event) → R s (taken_from triggers actions events).lines s
  from_by s triggers actions events =
      let place = position_or_len (is_matched triggers actions) events in
      sets.joined s s s (flat_map event_line (take (place + 1) events)) (map action_line (begun_by triggers actions (slice_get events place)))
      (events_by s (take (place + 1) events)) (actions_by s (begun_by triggers actions (slice_get events place)))

  -- what is taken
  pub taken_by : (s : State) (triggers : Event → Action → Bool) (actions : List Action) (running : List (List Command)) (events : List Event)
      → R s (taken_now triggers actions running events).lines s
  unfolding taken_now
  taken_by s triggers actions [] events = from_by s triggers actions (events_to_take triggers actions events)
  taken_by s triggers actions (commands ∷ rest) events = sets.none s
