-- The modelled kernel: processes and the clock (this project's profile).
use Rattle.std.specs.Prelude.{ℕ, ◌+◌, Bool, true, false, not, ◌||◌, ◌==◌, nat_le, List, [], ◌∷◌, ◌++◌, map, filter, Option, Some, None, if◌then◌else◌}
use Rattle.std.specs.List.{find}
use Rattle.std.specs.Str.{bytes_eq}
use Rattle.init_machine.specs.declared.config.Plan.{Plan}
use Rattle.init_machine.specs.declared.output.How.{How}
use Rattle.init_machine.specs.declared.output.How.TheVariants.{Exit, Killed}

-- when a planned process exits, and with which status
pub record End : Type 0 where
  pub time : ℕ
  pub status : ℕ

-- a process: its end where one is planned, and whether it was killed
pub record Process : Type 0 where
  pub pid : ℕ
  pub name : List ℕ
  pub end : Option End
  pub killed : Bool

-- the clock in milliseconds, the pid of the next process, and the processes in the order of their pids
pub record Kernel : Type 0 where
  pub clock : ℕ
  pub next_pid : ℕ
  pub processes : List Process

-- the largest pid; a spawn that would pass it has none
abbrev pub last_pid : ℕ
last_pid = 4194304

-- the clock doesn't pass 2 ^ 53 milliseconds
abbrev pub last_time : ℕ
last_time = 9007199254740992

-- no process, at the time 0
abbrev pub first_kernel : ℕ → Kernel
first_kernel pid = record { clock = 0; next_pid = pid; processes = [] }

abbrev pub has_pid : Kernel → Bool
has_pid k = nat_le k.next_pid last_pid

abbrev pub end_by : ℕ → Option Plan → Option End
end_by now None = None
end_by now (Some plan) = Some (record { time = now + plan.after.0; status = plan.status })

-- a process of a path that has a plan exits as planned; another one lives until it exits or is killed
abbrev pub planned_end : List Plan → ℕ → List ℕ → Option End
planned_end plans now path = end_by now (find (λ plan. bytes_eq plan.path path) plans)

-- a process more, with the next pid
abbrev pub with_process : List Plan → Kernel → List ℕ → List ℕ → Kernel
with_process plans k name path = record k {
  next_pid = k.next_pid + 1;
  processes = k.processes ++ (record { pid = k.next_pid; name = name; end = planned_end plans k.clock path; killed = false }) ∷ [];
}

abbrev pub marked : ℕ → Process → Process
marked pid p = if p.pid == pid then record p { killed = true } else p

-- the process with this pid is killed, if it lives
abbrev pub with_kill : Kernel → ℕ → Kernel
with_kill k pid = record k { processes = map (marked pid) k.processes }

-- the process of this name with the least pid
abbrev pub first_named : Kernel → List ℕ → Option Process
first_named k name = find (λ p. bytes_eq p.name name) k.processes

abbrev pub without : Kernel → ℕ → Kernel
without k pid = record k { processes = filter (λ p. not (p.pid == pid)) k.processes }

abbrev pub is_past : ℕ → Option End → Bool
is_past now None = false
is_past now (Some end) = nat_le end.time now

-- a process ends at a time where it was killed, or its planned end has come
abbrev pub has_ended : ℕ → Process → Bool
has_ended now p = p.killed || is_past now p.end

-- how a planned process ends (one that has no planned end ends by being killed alone)
abbrev pub planned_how : Option End → How
planned_how None = Killed
planned_how (Some end) = Exit end.status

-- a killed process is killed, also where its planned end has come
abbrev pub how_ended : Process → How
how_ended p = if p.killed then Killed else planned_how p.end

-- the processes that end when the clock has moved, in the order of their pids
abbrev pub ending_at : Kernel → ℕ → List Process
ending_at k now = filter (has_ended now) k.processes

-- the clock moves, and those processes are gone together
abbrev pub at_time : Kernel → ℕ → Kernel
at_time k now = record k { clock = now; processes = filter (λ p. not (has_ended now p)) k.processes }
