-- What a core is to the layers above.
use Rattle.std.specs.Prelude.{ℕ, ◌≤◌, ⊤, Bool, false, List, [], length}
use Rattle.init_machine.specs.Changes.{Change}
use Rattle.init_machine.specs.Policy.{PolicyLines}
use Rattle.init_machine.specs.State.{Opening, State, first_state}
use Rattle.init_machine.specs.Step.{step}
use Rattle.init_machine.specs.declared.config.Config.{Config}
use Rattle.init_machine.specs.declared.config.Pair.{Pair}
use Rattle.init_machine.specs.declared.input.Input.{Input}
use Rattle.init_machine.specs.declared.input.Input.TheVariants as input
use Rattle.machine_parts.specs.declared.parts.Parts.{Parts}

-- What the machine goes by, its state, its store of properties, and whether memory ran out at an input. The saved pairs of the
-- configuration are in the state; no step reads those of the configuration.
pub record CoreView (S : Type 0) : Type 0 where
  pub config : Config
  pub policy : PolicyLines
  pub state : State
  pub store : S
  pub spent : Bool

abbrev pub without_saved : Config → Config
without_saved config = record config { saved = [] }

abbrev pub opening_of : Config → PolicyLines → ℕ → Opening
opening_of config policy capacity = record { config = config; policy = policy; capacity = capacity }

-- What the machine goes by, but its policy. (The saved pairs are in the state.)
abbrev pub config_of : {S O : Type 0} → List Pair → List (List ℕ) → Parts S O → Config
config_of pairs domains p = record {
  actions = p.queue.actions;
  services = p.services.defs;
  pairs = pairs;
  saved = [];
  plans = p.kernel.plans;
  domains = domains;
}

-- a core in its first state
abbrev pub opened : {S : Type 0} → Config → PolicyLines → ℕ → S → CoreView S
opened config policy capacity store = record {
  config = without_saved config;
  policy = policy;
  state = first_state (opening_of config policy capacity);
  store = store;
  spent = false;
}

-- what the next input does
abbrev pub step_of : {S : Type 0} → CoreView S → Input → Change
step_of core i = step core.config core.policy core.state i

-- a set is of a client that the configuration declares; every other input is the main actor's
abbrev pub IsDeclared : Config → Input → Type 0
IsDeclared config input.Boot = ⊤
IsDeclared config input.Next = ⊤
IsDeclared config (input.Tick ms) = ⊤
IsDeclared config (input.Exit name status) = ⊤
IsDeclared config (input.File path content) = ⊤
IsDeclared config (input.Set who name value) = (1 ≤ who.0) × (who.0 ≤ length config.domains)
