-- What a kernel is: the plans, and the state of the kernel; and what its calls do.
use Rattle.std.specs.Prelude.{ℕ, Bool, nat_le, List, map, Option, Some, None}
use Rattle.std.specs.List.{list_all}
use Rattle.std.specs.Option.{option_map}
use Rattle.init_base.specs.declared.units.Pid.{Pid}
use Rattle.init_machine.specs.Kernel.{Kernel, Process, last_time, first_kernel, with_process, with_kill, first_named, without, how_ended, ending_at, at_time}
use Rattle.init_machine.specs.declared.config.Plan.{Plan}
use Rattle.model_kernel.specs.declared.reaped.Reaped.{Reaped}

pub record KernelView : Type 0 where
  pub plans : List Plan
  pub kernel : Kernel

abbrev pub paths_of : List Plan → List (List ℕ)
paths_of plans = map (λ plan. plan.path) plans

-- no process of a plan runs longer than the clock can tell
abbrev pub end_in_time : List Plan → Bool
end_in_time plans = list_all (λ plan. nat_le plan.after.0 last_time) plans

abbrev pub opened : List Plan → ℕ → KernelView
opened plans pid = record { plans = plans; kernel = first_kernel pid }

abbrev pub spawned : KernelView → List ℕ → List ℕ → KernelView
spawned k name path = record k { kernel = with_process k.plans k.kernel name path }

abbrev pub killed : KernelView → Pid → KernelView
killed k pid = record k { kernel = with_kill k.kernel pid.0 }

abbrev pub pid_of : Process → Pid
pid_of p = record { 0 = p.pid }

-- the process of a name that exits
abbrev pub exiting : KernelView → List ℕ → Option Pid
exiting k name = option_map pid_of (first_named k.kernel name)

abbrev pub without_first : Kernel → Option Process → Kernel
without_first k None = k
without_first k (Some p) = without k p.pid

-- that process is gone
abbrev pub exited : KernelView → List ℕ → KernelView
exited k name = record k { kernel = without_first k.kernel (first_named k.kernel name) }

abbrev pub reaped_of : Process → Reaped
reaped_of p = record { pid = pid_of p; name = p.name; how = how_ended p }

-- the processes that end when the clock has moved, in the order of their pids
abbrev pub reaped_at : KernelView → ℕ → List Reaped
reaped_at k now = map reaped_of (ending_at k.kernel now)

-- the clock has moved, and they are gone
abbrev pub ticked : KernelView → ℕ → KernelView
ticked k now = record k { kernel = at_time k.kernel now }
