-- What the clients of a script learn, where one act is taken after another: each request tells what is so at its place.
use Rattle.std.specs.Prelude.{ℕ, ◌+◌, ◌==◌, List, [], ◌∷◌, ◌++◌, map, Option, Some, None, if◌then◌else◌}
use Rattle.init_machine.specs.History.{after_from}
use Rattle.init_machine.specs.Policy.{PolicyLines}
use Rattle.init_machine.specs.State.{State, value_now}
use Rattle.init_machine.specs.declared.config.Config.{Config}
use Rattle.init_machine.specs.declared.report.ClientPart.{ClientPart}
use Rattle.init_machine.specs.declared.report.Reading.{Reading}
use Rattle.init_machine.specs.declared.report.Reading.TheVariants as reading
use Rattle.script_lang.specs.Inputs.{act_inputs}
use Rattle.script_lang.specs.declared.script.Act.{Act}
use Rattle.script_lang.specs.declared.script.Act.TheVariants as act
use Rattle.script_lang.specs.declared.script.Ask.{Ask}
use Rattle.script_lang.specs.declared.script.Ask.TheVariants as ask
use Rattle.script_lang.specs.declared.script.Client.{Client}

-- a read of a name, where so many sets were accepted and the name has this value or none
abbrev pub read_as : List ℕ → ℕ → Option (List ℕ) → Reading
read_as name count None = reading.Absent name count
read_as name count (Some value) = reading.Found name count value

-- what a read of a name tells in a state
abbrev pub read_now : State → List ℕ → Reading
read_now s name = read_as name s.props.count (value_now s name)

-- what a request tells in a state; a set tells nothing
abbrev pub told_now : State → Ask → Option Reading
told_now s (ask.Set pair) = None
told_now s (ask.Read name) = Some (read_now s name)
told_now s ask.Sync = Some (reading.Synced s.props.count)
told_now s ask.Catch = Some (reading.Caught s.props.count)

-- the readings that one is or none
abbrev pub readings_in : Option Reading → List Reading
readings_in None = []
readings_in (Some reading) = reading ∷ []

-- what an act tells the client with this number
abbrev pub told_by : ℕ → State → Act → List Reading
told_by who s (act.Step count) = []
told_by who s (act.Tick ms) = []
told_by who s (act.Exit name status) = []
told_by who s (act.File path content) = []
told_by who s (act.Ask other ask) = if other.0 == who then readings_in (told_now s ask) else []

-- the readings of the client with this number, in acts that are taken from a state on
abbrev pub readings_from : Config → PolicyLines → ℕ → State → List Act → List Reading
readings_from config policy who s [] = []
readings_from config policy who s (act ∷ acts) =
    told_by who s act ++ readings_from config policy who (after_from config policy s (act_inputs act)) acts

-- the parts of clients, of which the first has this number
abbrev pub parts_from : Config → PolicyLines → State → List Act → ℕ → List Client → List ClientPart
parts_from config policy s acts id [] = []
parts_from config policy s acts id (client ∷ rest) =
    record { name = client.name; domain = client.domain; readings = readings_from config policy id s acts }
    ∷ parts_from config policy s acts (id + 1) rest

-- the part of a client that learned nothing yet
abbrev pub empty_part : Client → ClientPart
empty_part client = record { name = client.name; domain = client.domain; readings = [] }

-- the parts of clients that learned nothing yet
abbrev pub empty_parts : List Client → List ClientPart
empty_parts clients = map (λ client. empty_part client) clients
