-- What the lines of a history tell of processes.
use Rattle.std.specs.Prelude.{◌≡◌, ℕ, Bool, false, ◌==◌, List, [], ◌∷◌, Contains}
use Rattle.init_base.specs.declared.units.Pid.{Pid}
use Rattle.init_machine.specs.Kernel.{Kernel, Process}
use Rattle.init_machine.specs.declared.output.Output.{Output}
use Rattle.init_machine.specs.declared.output.Output.TheVariants as output

-- the pid of a process that is spawned
abbrev pub spawned_in : Output → List ℕ
spawned_in (output.Spawn pid name path) = pid.0 ∷ []
spawned_in _ = []

-- the process of this pid is reaped
abbrev pub reaps : Pid → Output → Bool
reaps pid (output.Reap other name how) = other.0 == pid.0
reaps pid _ = false

-- a process was spawned with this pid and name
pub record WasSpawned (earlier : List Output) (pid : Pid) (name : List ℕ) : Type 0 where
  pub path : List ℕ
  pub line : Contains earlier (output.Spawn pid name path)

-- a process with this pid and name lives
pub record Lives (kernel : Kernel) (pid : Pid) (name : List ℕ) : Type 0 where
  pub process : Process
  pub there : Contains kernel.processes process
  pub pid_is : process.pid ≡ pid.0
  pub name_is : process.name ≡ name
