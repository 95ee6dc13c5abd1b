-- The state of the machine, and what it is opened with (this project's profile).
use Rattle.std.specs.Prelude.{ℕ, Bool, false, List, [], map, Option, None}
use Rattle.init_machine.specs.FileTree.{Place, first_tree}
use Rattle.init_machine.specs.Kernel.{Kernel, first_kernel}
use Rattle.init_machine.specs.Marks.{first_marks}
use Rattle.init_machine.specs.Policy.{PolicyLines}
use Rattle.init_machine.specs.Props.{Props, value_in}
use Rattle.init_machine.specs.declared.action.Command.{Command}
use Rattle.init_machine.specs.declared.config.Config.{Config}
use Rattle.init_machine.specs.declared.config.Pair.{Pair}
use Rattle.init_machine.specs.declared.config.Plan.{Plan}
use Rattle.init_machine.specs.declared.event.Event.{Event}
use Rattle.init_machine.specs.declared.waiting.Waiting.{Waiting}
use Rattle.init_machine.specs.declared.service.Marks.{Marks}
use Rattle.init_machine.specs.declared.service.ServiceDef.{ServiceDef}

-- what a machine is opened with: its configuration, the lines of the property policy, and the capacity of its
-- properties in words
pub record Opening : Type 0 where
  pub config : Config
  pub policy : PolicyLines
  pub capacity : ℕ

-- what commands and services go by, which is all of an opening but its actions: the declared services, the plans of
-- processes, and the policy
pub record Rules : Type 0 where
  pub services : List ServiceDef
  pub plans : List Plan
  pub policy : PolicyLines

abbrev pub rules_of : Config → PolicyLines → Rules
rules_of config policy = record { services = config.services; plans = config.plans; policy = policy }

-- the exits of a critical service that were counted, and the time at which its window began
pub record Exits : Type 0 where
  pub count : ℕ
  pub since : ℕ

pub record State : Type 0 where
  -- the properties: their values and numbers, and the count of accepted sets
  pub props : Props
  -- the events that wait to be taken
  pub events : List Event
  -- the actions that run, in their order, each by the commands that it has left
  pub running : List (List Command)
  -- whether changes of properties queue events
  pub changes : Bool
  -- whether a boot was taken
  pub had_boot : Bool
  -- the marks of each service, in declared order
  pub marks : List Marks
  -- the counted exits of each service, in declared order (when a restarting service is due is no part of the state: it is
  -- a period after its last start, see `due_time` of `Step`)
  pub exits : List Exits
  -- the processes and the clock
  pub kernel : Kernel
  -- the file tree
  pub tree : List Place
  -- the environment
  pub environment : List Pair
  -- the persistent properties to be saved, in ascending order of names, and whether saving is on
  pub saved : List Pair
  pub saving : Bool
  -- what the running command waits for
  pub waits : Option Waiting
  -- the target of the reboot by which the machine is over
  pub over : Option (List ℕ)

-- no property, and all the room
abbrev pub no_props : ℕ → Props
no_props capacity = record { held = []; count = 0; capacity = capacity }

abbrev pub no_exits : Exits
no_exits = record { count = 0; since = 0 }

-- The first state: the saved pairs are those of the configuration, the next pid is 100, the marks are those of the
-- options, and all else is empty, off and 0.
unfoldable pub first_state : Opening → State
first_state o = record {
  props = no_props o.capacity;
  events = [];
  running = [];
  changes = false;
  had_boot = false;
  marks = map (λ service. first_marks service.disabled service.oneshot) o.config.services;
  exits = map (λ service. no_exits) o.config.services;
  kernel = first_kernel 100;
  tree = first_tree;
  environment = [];
  saved = o.config.saved;
  saving = false;
  waits = None;
  over = None;
}

-- the value of a property now, none where it is absent
abbrev pub value_now : State → List ℕ → Option (List ℕ)
value_now s name = value_in s.props name
