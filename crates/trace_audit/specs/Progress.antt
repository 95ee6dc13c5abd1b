-- How far each actor's part has come where a history is gone through. No promise of a public call cites these definitions.
use Rattle.std.specs.Prelude.{◌≡◌, ◌≢◌, ℕ, zero, suc, List, [], ◌∷◌, ◌++◌, filter, drop, replicate, slice_get, Option, Some, None}
use Rattle.std.specs.List.{filter_map, flat_map}
use Rattle.init_machine.specs.declared.config.Pair.{Pair}
use Rattle.init_machine.specs.declared.input.Input.{Input}
use Rattle.init_machine.specs.declared.input.Input.TheVariants as input
use Rattle.script_lang.specs.Inputs.{ActorParts, ask_by, main_inputs}
use Rattle.script_lang.specs.Laws.{set_by, set_in}
use Rattle.script_lang.specs.Merges.{is_main, requests_of}
use Rattle.script_lang.specs.declared.script.Act.{Act}
use Rattle.script_lang.specs.declared.script.Act.TheVariants as act
use Rattle.script_lang.specs.declared.script.Ask.{Ask}
use Rattle.trace_audit.specs.declared.progress.MainPlace.{MainPlace}
use Rattle.trace_audit.specs.declared.progress.Progress.{Progress}

-- what is left of the parts: of the main actor's, and the sets of each client's
pub record Left : Type 0 where
  pub main : List Input
  pub sets : ℕ → List Pair

-- some inputs take what is left from one to another: each is the next of its actor
pub record Takes (inputs : List Input) (old new : Left) : Type 0 where
  pub main : filter is_main inputs ++ new.main ≡ old.main
  pub sets : (who : ℕ) → filter_map (set_by who) inputs ++ new.sets who ≡ old.sets who

-- an input is not the next of its actor
abbrev pub Refuses : Input → Left → Type 0
Refuses i old = (new : Left) → Takes (i ∷ []) old new → ⊥

-- nothing is left
pub record IsOver (left : Left) : Type 0 where
  pub main : left.main ≡ []
  pub sets : (who : ℕ) → left.sets who ≡ []

abbrev pub set_among : Option Ask → Option Pair
set_among None = None
set_among (Some ask) = set_in ask

-- what an act of the client with this number sets
abbrev pub set_of : ℕ → Act → Option Pair
set_of who act = set_among (ask_by who act)

-- the one input of an act that is neither a step nor a client's
abbrev pub single_input : Act → Option Input
single_input (act.Step count) = None
single_input (act.Tick ms) = Some (input.Tick ms)
single_input (act.Exit name status) = Some (input.Exit name status)
single_input (act.File path content) = Some (input.File path content)
single_input (act.Ask who ask) = None

-- the sets of a client from a place of the acts on
abbrev pub sets_behind : List Act → ℕ → Option ℕ → List Pair
sets_behind acts who None = []
sets_behind acts who (Some place) = filter_map (set_of who) (drop place acts)

-- what is left of the main actor's part: so many steps, and its inputs from a place of the acts on
abbrev pub main_left : List Act → MainPlace → List Input
main_left acts main = replicate main.steps input.Next ++ flat_map main_inputs (drop main.at acts)

-- what is left of the sets of each client, whose places are these
abbrev pub sets_left : List Act → List ℕ → ℕ → List Pair
sets_left acts places zero = []
sets_left acts places (suc k) = sets_behind acts (suc k) (slice_get places k)

abbrev pub left_of : List Act → Progress → Left
left_of acts progress = record { main = main_left acts progress.main; sets = sets_left acts progress.places.items }

-- a set of the client with this number is the next of its part, and what is left of the others stays
pub record TakesSet (acts : List Act) (old new : List ℕ) (who : ℕ) (pair : Pair) : Type 0 where
  pub next : sets_left acts old who ≡ pair ∷ sets_left acts new who
  pub others : (other : ℕ) → other ≢ who → sets_left acts new other ≡ sets_left acts old other

-- what is left at first: the parts
abbrev pub first_left : ActorParts → Left
first_left parts = record { main = parts.main; sets = λ who. filter_map set_in (requests_of parts who) }
