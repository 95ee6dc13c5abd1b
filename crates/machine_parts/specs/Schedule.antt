-- What init is going to do: the events that wait, the actions that run, and whether a boot was taken.
use Rattle.std.specs.Prelude.{ℕ, Bool, true, false, ◌||◌, List, [], ◌∷◌, ◌++◌, codes}
use Rattle.action_queue.specs.Queue.{without_first}
use Rattle.init_machine.specs.Matches.{matches}
use Rattle.init_machine.specs.Props.{Props, value_in}
use Rattle.init_machine.specs.Taking.{Taken, taken_now}
use Rattle.init_machine.specs.declared.action.Action.{Action}
use Rattle.init_machine.specs.declared.action.Command.{Command}
use Rattle.init_machine.specs.declared.event.Event.{Event}
use Rattle.init_machine.specs.declared.event.Event.TheVariants.{Named, Mark}

pub record ScheduleView : Type 0 where
  pub actions : List Action
  pub events : List Event
  pub running : List (List Command)
  pub changes : Bool
  pub had_boot : Bool

abbrev pub first_schedule : List Action → ScheduleView
first_schedule actions = record { actions = actions; events = []; running = []; changes = false; had_boot = false }

abbrev pub with_event : ScheduleView → Event → ScheduleView
with_event q event = record q { events = q.events ++ event ∷ [] }

-- the events of a boot, of which the third has this name, and behind them the mark
abbrev pub booted : ScheduleView → List ℕ → ScheduleView
booted q last = record q {
  events = q.events ++ Named (codes "early-init") ∷ Named (codes "init") ∷ Named last ∷ Mark ∷ [];
  had_boot = true;
}

-- what is taken, with the properties as they are
abbrev pub taken_in : Props → ScheduleView → Taken
taken_in props q = taken_now (matches (value_in props)) q.actions q.running q.events

-- that was taken, and then the next command of the first running action
abbrev pub schedule_after : ScheduleView → Taken → ScheduleView
schedule_after q t = record q { events = t.events; running = without_first t.running; changes = q.changes || t.changes }
