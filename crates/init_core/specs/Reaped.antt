-- What a reaping reads of services, and the reaping of a process as the kernel tells it.
use Rattle.std.specs.Prelude.{ℕ, List, [], Option, Some, None}
use Rattle.init_machine.specs.Changes.{Change}
use Rattle.init_machine.specs.Reaping.{reap}
use Rattle.init_machine.specs.State.{State, Rules}
use Rattle.init_machine.specs.declared.action.Command.{Command}
use Rattle.init_machine.specs.declared.service.Critical.{Critical}
use Rattle.init_machine.specs.declared.service.ServiceDef.{ServiceDef}
use Rattle.model_kernel.specs.declared.reaped.Reaped.{Reaped}

-- the commands of `onrestart`
abbrev pub onrestart_of : Option ServiceDef → List Command
onrestart_of None = []
onrestart_of (Some service) = service.onrestart

abbrev pub target_by : Option Critical → Option (List ℕ)
target_by None = None
target_by (Some critical) = Some critical.target

-- where a critical service reboots to
abbrev pub target_of : Option ServiceDef → Option (List ℕ)
target_of None = None
target_of (Some service) = target_by service.critical

abbrev pub reap_one : Rules → Reaped → State → Change
reap_one rules process s = reap rules process.pid.0 process.name process.how s
