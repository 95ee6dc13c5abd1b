-- How the examples are written: a machine over one root file, and the outputs of its inputs.
use Rattle.std.specs.Prelude.{ℕ, false, List, [], ◌∷◌, codes, None}
use Rattle.std.specs.Str.{is_utf8, chars}
use lib.Utf8.{encode}
use Rattle.init_machine.specs.Effect.{perform, effect}
use Rattle.init_machine.specs.Expand.{expand}
use Rattle.init_machine.specs.FileTree.{tree_refusal, tree_after}
use Rattle.init_machine.specs.Marks.{service_step}
use Rattle.init_machine.specs.Matches.{matches}
use Rattle.init_machine.specs.Policy.{PolicyLines, context_of, is_allowed}
use Rattle.init_machine.specs.Reaping.{exited, reap}
use Rattle.init_machine.specs.Services.{follow, kill_process, operate, operate_each, set_by, spawn, tell}
use Rattle.init_machine.specs.Setting.{set_answer, put_property, set_property}
use Rattle.init_machine.specs.State.{Opening, State, first_state}
use Rattle.init_machine.specs.Step.{boot, next, tick, exit, file, ask, settle, respond, step}
use Rattle.init_machine.specs.Taking.{taken_now}
use Rattle.init_machine.specs.Tasks.{task_of}
use Rattle.init_machine.specs.Typed.{is_typed}
use Rattle.init_machine.specs.Words.{used_of, need_of}
use Rattle.init_machine.specs.declared.action.Action.{Action}
use Rattle.init_machine.specs.declared.config.Config.{Config}
use Rattle.init_machine.specs.declared.config.Pair.{Pair}
use Rattle.init_machine.specs.declared.config.Plan.{Plan}
use Rattle.init_machine.specs.declared.input.Input.{Input}
use Rattle.init_machine.specs.declared.output.Output.{Output}
use Rattle.init_machine.specs.declared.type_kind.TypeKind.TheVariants as kind
use Rattle.init_machine.specs.declared.service.ServiceDef.{ServiceDef}
use Rattle.machine_examples.specs.Trace.{root}

-- all that unfolds when the machine's definitions run on closed values
unfoldable pub computing : Unit {0}
unfolding is_utf8 chars encode used_of need_of context_of is_allowed is_typed first_state set_answer put_property set_property service_step tell spawn kill_process follow operate operate_each set_by expand task_of tree_refusal tree_after perform effect exited reap matches taken_now boot next tick exit file ask settle respond step
computing = tt

-- the outputs of inputs, one list for each
abbrev pub outputs_from : Config → PolicyLines → State → List Input → List (List Output)
outputs_from config policy s [] = []
outputs_from config policy s (i ∷ inputs) = let done = step config policy s i in done.lines ∷ outputs_from config policy done.state inputs

abbrev pub outputs_of : Opening → List Input → List (List Output)
outputs_of o inputs = outputs_from o.config o.policy (first_state o) inputs

-- `service NAME PATH`, without options
abbrev pub service : ℕ → List ℕ → List ℕ → ServiceDef
service line name path = record {
  name = name;
  path = path;
  args = [];
  file = root;
  line = line;
  classes = codes "default" ∷ [];
  disabled = false;
  oneshot = false;
  overrides = false;
  critical = None;
  period = record { 0 = 5000 };
  timeout = None;
  onrestart = [];
  kept = [];
}

-- `plan PATH MS STATUS`
abbrev pub plan : List ℕ → ℕ → ℕ → Plan
plan path after status = record { path = path; after = record { 0 = after }; status = status }

-- every name has the context `default_prop`, and the domain `shell` may set it
abbrev pub plain_policy : PolicyLines
plain_policy = record {
  default = record { label = codes "default_prop"; kind = kind.Any };
  exact = [];
  prefixes = [];
  allows = record { domain = codes "shell"; label = codes "default_prop" } ∷ [];
}

-- one client, whose domain is `shell`
abbrev pub opening_of : List Action → List ServiceDef → List Plan → Opening
opening_of actions services plans = record {
  config = record { actions = actions; services = services; pairs = []; saved = []; plans = plans; domains = codes "shell" ∷ [] };
  policy = plain_policy;
  capacity = 65536;
}

-- with these pairs of build files
abbrev pub with_pairs : List Pair → Opening → Opening
with_pairs pairs o = record o { config = record o.config { pairs = pairs } }

-- with these pairs of the persistent store
abbrev pub with_store : List Pair → Opening → Opening
with_store saved o = record o { config = record o.config { saved = saved } }

-- with this policy, and clients of these domains
abbrev pub with_policy : PolicyLines → List (List ℕ) → Opening → Opening
with_policy policy domains o = record o { policy = policy; config = record o.config { domains = domains } }
