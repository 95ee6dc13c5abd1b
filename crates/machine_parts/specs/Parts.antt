-- What the parts stand for, and what a call does to them.
use Rattle.std.specs.Prelude.{◌≡◌, ℕ, List, Option}
use Rattle.init_machine.specs.Changes.{Change}
use Rattle.init_machine.specs.History.{sets_in}
use Rattle.init_machine.specs.Props.{Props, more_sets}
use Rattle.init_machine.specs.State.{State, Rules}
use Rattle.init_machine.specs.declared.action.Action.{Action}
use Rattle.init_machine.specs.declared.output.Output.{Output}
use Rattle.machine_parts.specs.declared.parts.Parts.{Parts}

-- the state of the machine, where the store means these properties
abbrev pub state_of : {S O : Type 0} → (S → Props) → Parts S O → State
state_of meaning p = record {
  props = meaning p.store;
  events = p.queue.events;
  running = p.queue.running;
  changes = p.queue.changes;
  had_boot = p.queue.had_boot;
  marks = p.services.marks;
  exits = p.services.exits;
  kernel = p.kernel.kernel;
  tree = p.tree;
  environment = p.environment;
  saved = p.saved;
  saving = p.saving;
  waits = p.waits;
  over = p.over;
}

-- what commands and services go by
abbrev pub rules_of : {S O : Type 0} → Parts S O → Rules
rules_of p = record { services = p.services.defs; plans = p.kernel.plans; policy = p.policy }

abbrev pub actions_of : {S O : Type 0} → Parts S O → List Action
actions_of p = p.queue.actions

-- What a call did: the parts stand for the state of this change, its lines were told, the told sets of the store grew by
-- those among the lines, and what the machine goes by is as it was.
pub record Does {S O : Type 0} (meaning : S → Props) (told : S → Option (List (List ℕ × List ℕ))) (adds : O → O → List Output → Type 0) (old new : Parts S O) (c : Change) : Type 0 where
  pub state : state_of meaning new ≡ c.state
  pub lines : adds old.outputs new.outputs c.lines
  pub sets : told new.store ≡ more_sets (told old.store) (sets_in c.lines)
  pub rules : rules_of new ≡ rules_of old
  pub actions : actions_of new ≡ actions_of old
