-- Merges: the inputs of a history are those of a script's actors, each actor's once and in its own order.
use Rattle.std.specs.Prelude.{◌≡◌, ℕ, zero, suc, Bool, not, List, [], ◌∷◌, ◌++◌, filter, slice_get, Option, Some, None}
use Rattle.std.specs.List.{filter_map}
use Rattle.init_machine.specs.History.{inputs_of}
use Rattle.init_machine.specs.declared.input.Input.{Input}
use Rattle.init_machine.specs.declared.input.Input.TheVariants as input
use Rattle.init_machine.specs.declared.report.Entry.{Entry}
use Rattle.script_lang.specs.Inputs.{ActorParts}
use Rattle.script_lang.specs.Laws.{is_set, set_by, set_in}
use Rattle.script_lang.specs.declared.script.Ask.{Ask}

-- every input but a set of a client is the main actor's
abbrev pub is_main : Input → Bool
is_main i = not (is_set i)

abbrev pub or_none : Option (List Ask) → List Ask
or_none None = []
or_none (Some asks) = asks

-- the requests of the client with this number, from 1; a client that isn't there has none
abbrev pub requests_of : ActorParts → ℕ → List Ask
requests_of parts zero = []
requests_of parts (suc place) = or_none (slice_get parts.clients place)

-- The inputs merge the parts. They begin with Boot. The sets of each client are the `set` requests of its part, each once, in
-- order, and all other inputs behind Boot are the main actor's part, each once, in order.
pub record IsMerging (parts : ActorParts) (inputs : List Input) : Type 0 where
  pub rest : List Input
  pub begins : inputs ≡ input.Boot ∷ rest
  pub main : filter is_main rest ≡ parts.main
  pub sets : (who : ℕ) → filter_map (set_by who) rest ≡ filter_map set_in (requests_of parts who)

-- Merges: the inputs of a history merge the parts
abbrev pub Merges : List Entry → ActorParts → Type 0
Merges history parts = IsMerging parts (inputs_of history)

-- some merging of the parts begins with these entries
abbrev pub BeginsMerging : List Entry → ActorParts → Type 0
BeginsMerging history parts = (more : List Input) × IsMerging parts (inputs_of history ++ more)
