-- What a script asks of the machine: the inputs in order, and the part of each actor.
use Rattle.std.specs.Prelude.{ℕ, ◌==◌, List, [], ◌∷◌, map, replicate, Option, Some, None, if◌then◌else◌}
use Rattle.std.specs.List.{filter_map, flat_map, enumerate_from}
use Rattle.init_base.specs.declared.units.ClientId.{ClientId}
use Rattle.init_machine.specs.declared.input.Input.{Input}
use Rattle.init_machine.specs.declared.input.Input.TheVariants as input
use Rattle.script_lang.specs.declared.script.Act.{Act}
use Rattle.script_lang.specs.declared.script.Act.TheVariants as act
use Rattle.script_lang.specs.declared.script.Ask.{Ask}
use Rattle.script_lang.specs.declared.script.Ask.TheVariants as ask
use Rattle.script_lang.specs.declared.script.Script.{Script}

-- the inputs of a client's request: a set is one, and the others are none
abbrev pub ask_inputs : ClientId → Ask → List Input
ask_inputs who (ask.Set pair) = input.Set who pair.name pair.value ∷ []
ask_inputs who (ask.Read name) = []
ask_inputs who ask.Sync = []
ask_inputs who ask.Catch = []

-- the inputs of an act, in order
abbrev pub act_inputs : Act → List Input
act_inputs (act.Step count) = replicate count input.Next
act_inputs (act.Tick ms) = input.Tick ms ∷ []
act_inputs (act.Exit name status) = input.Exit name status ∷ []
act_inputs (act.File path content) = input.File path content ∷ []
act_inputs (act.Ask who ask) = ask_inputs who ask

-- InOrder: the inputs of a script in the order of its lines, Boot first
abbrev pub InOrder : Script → List Input
InOrder script = input.Boot ∷ flat_map act_inputs script.acts

-- the inputs of an act of the main actor; a client's act has none
abbrev pub main_inputs : Act → List Input
main_inputs (act.Step count) = act_inputs (act.Step count)
main_inputs (act.Tick ms) = act_inputs (act.Tick ms)
main_inputs (act.Exit name status) = act_inputs (act.Exit name status)
main_inputs (act.File path content) = act_inputs (act.File path content)
main_inputs (act.Ask who ask) = []

-- the request of an act, where it is this client's
abbrev pub ask_by : ℕ → Act → Option Ask
ask_by who (act.Step count) = None
ask_by who (act.Tick ms) = None
ask_by who (act.Exit name status) = None
ask_by who (act.File path content) = None
ask_by who (act.Ask other ask) = if other.0 == who then Some ask else None

-- the requests of a client, in order
abbrev pub part_of : ℕ → Script → List Ask
part_of who script = filter_map (ask_by who) script.acts

-- what each actor does: the main actor's inputs, and the requests of each client, that of client k at place k - 1
pub record ActorParts : Type 0 where
  pub main : List Input
  pub clients : List (List Ask)

-- Parts: the part of the main actor and of each client
abbrev pub Parts : Script → ActorParts
Parts script = record {
  main = flat_map main_inputs script.acts;
  clients = map (λ numbered. part_of numbered.0 script) (enumerate_from 1 script.clients);
}
