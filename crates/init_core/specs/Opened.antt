-- What a machine is opened with, and its parts then.
use Rattle.std.specs.Prelude.{false, List, [], None}
use Rattle.init_machine.specs.FileTree.{first_tree}
use Rattle.init_machine.specs.Policy.{PolicyLines}
use Rattle.init_machine.specs.declared.action.Action.{Action}
use Rattle.init_machine.specs.declared.config.Plan.{Plan}
use Rattle.init_machine.specs.declared.config.Pair.{Pair}
use Rattle.init_machine.specs.declared.service.ServiceDef.{ServiceDef}
use Rattle.machine_parts.specs.Schedule.{first_schedule}
use Rattle.machine_parts.specs.declared.parts.Parts.{Parts}
use Rattle.model_kernel.specs.Kernel.{opened as kernel_opened}
use Rattle.services.specs.Services.{first_services}
use Rattle.init_core.specs.declared.opening.Opened.{Opened}

abbrev pub opened_by : List Action → List ServiceDef → List Plan → Opened
opened_by actions services plans = record {
  queue = first_schedule actions;
  services = first_services services;
  kernel = kernel_opened plans 100;
  tree = first_tree;
}

abbrev pub first_parts : {S O : Type 0} → Opened → S → PolicyLines → List Pair → O → Parts S O
first_parts opened store policy saved outputs = record {
  store = store;
  queue = opened.queue;
  services = opened.services;
  kernel = opened.kernel;
  tree = opened.tree;
  policy = policy;
  environment = [];
  saved = saved;
  saving = false;
  waits = None;
  over = None;
  outputs = outputs;
}
