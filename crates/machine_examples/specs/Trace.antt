-- Words for the lines of a trace, as they are printed, and for the lines of an rc file.
use Rattle.std.specs.Prelude.{ℕ, List, [], ◌∷◌, ◌++◌, codes, None, Some}
use Rattle.init_machine.specs.declared.action.Action.{Action}
use Rattle.init_machine.specs.declared.action.Command.{Command}
use Rattle.init_machine.specs.declared.input.Input.{Input}
use Rattle.init_machine.specs.declared.input.Input.TheVariants as input
use Rattle.init_machine.specs.declared.output.How.TheVariants as how
use Rattle.init_machine.specs.declared.output.Output.{Output}
use Rattle.init_machine.specs.declared.output.Output.TheVariants as output
use Rattle.init_machine.specs.declared.word.Word.{Word}

-- the root file
abbrev pub root : List ℕ
root = codes "/system/etc/init/hw/init.rc"

-- Lines of the root file.

abbrev pub command : ℕ → Word → List (List ℕ) → Command
command line word args = record { file = root; line = line; word = word; args = args }

-- `on EVENT`, with its commands
abbrev pub on : ℕ → List ℕ → List Command → Action
on line event commands = record { file = root; line = line; event = Some event; props = []; commands = commands }

-- Lines of a trace.

abbrev pub event : List ℕ → Output
event name = output.Event name

abbrev pub action : ℕ → Output
action line = output.Action root line

abbrev pub runs : ℕ → Word → List (List ℕ) → Output
runs line word args = output.Command root line word args

abbrev pub put : ℕ → List ℕ → List ℕ → Output
put number name value = output.Put number name value

-- `put NUMBER init.svc.NAME STATE`
abbrev pub state : ℕ → List ℕ → List ℕ → Output
state number name word = output.Put number (codes "init.svc." ++ name) word

abbrev pub spawn : ℕ → List ℕ → List ℕ → Output
spawn pid name path = output.Spawn (record { 0 = pid }) name path

abbrev pub kill : ℕ → List ℕ → Output
kill pid name = output.Kill (record { 0 = pid }) name

abbrev pub reap : ℕ → List ℕ → ℕ → Output
reap pid name status = output.Reap (record { 0 = pid }) name (how.Exit status)

abbrev pub reap_killed : ℕ → List ℕ → Output
reap_killed pid name = output.Reap (record { 0 = pid }) name how.Killed

abbrev pub ok : Output
ok = output.Ok

-- the command is the only one of `early-init`, and the first to run
abbrev pub begins : ℕ → List Output
begins line = event (codes "early-init") ∷ action line ∷ []

-- the inputs of `step 1`, and of a client's set
abbrev pub next : Input
next = input.Next

abbrev pub sets : ℕ → List ℕ → List ℕ → Input
sets client name value = input.Set (record { 0 = client }) name value

-- `on property:NAME=VALUE`, with its commands
abbrev pub on_property : ℕ → List ℕ → List ℕ → List Command → Action
on_property line name value commands = record {
  file = root;
  line = line;
  event = None;
  props = record { name = name; value = Some value } ∷ [];
  commands = commands;
}

-- `&& property:NAME=VALUE` behind the triggers of an action
abbrev pub with_test : List ℕ → List ℕ → Action → Action
with_test name value a = record a { props = a.props ++ (record { name = name; value = Some value }) ∷ [] }

abbrev pub idle : Output
idle = output.Idle

abbrev pub accepted : ℕ → Output
accepted number = output.Accepted number

-- the first Next, where nothing waits for the events of a boot
abbrev pub boots : List Output
boots = event (codes "early-init") ∷ event (codes "init") ∷ event (codes "late-init") ∷ output.AllProperties ∷ idle ∷ []
