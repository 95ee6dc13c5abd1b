-- The times that services wait for, by their places.
use Rattle.std.specs.Prelude.{ℕ, ◌+◌, false, nat_le, List, map, Option, Some, None, is_some, slice_index_or, if◌then◌else◌}
use Rattle.std.specs.List.{enumerate_from}
use Rattle.std.specs.Option.{option_map}
use Rattle.init_machine.specs.Marks.{first_marks}
use Rattle.init_machine.specs.Step.{due_time}
use Rattle.init_machine.specs.declared.service.Marks.{Marks}
use Rattle.init_machine.specs.declared.service.ServiceDef.{ServiceDef}

-- a restarting service is due a period after its last start
abbrev pub restart_time : ServiceDef → Marks → Option ℕ
restart_time service m = if m.restarting then Some (due_time service m) else None

-- a service with a timeout is timed out so long after its process began
abbrev pub timeout_time : ServiceDef → Marks → Option ℕ
timeout_time service m = if is_some m.pid then option_map (λ timeout. m.started.0 + timeout.0) service.timeout else None

-- A time, where a clock of 64 bits reaches it. (A later one is never due.)
abbrev pub within_reach : Option ℕ → Option ℕ
within_reach None = None
within_reach (Some time) = if nat_le time 18446744073709551615 then Some time else None

-- the times that are kept
abbrev pub kept_restart : ServiceDef → Marks → Option ℕ
kept_restart service m = within_reach (restart_time service m)

abbrev pub kept_timeout : ServiceDef → Marks → Option ℕ
kept_timeout service m = within_reach (timeout_time service m)

-- the time of the service at a place (a place that has no service isn't asked for)
abbrev pub time_at : (ServiceDef → Marks → Option ℕ) → List Marks → ℕ × ServiceDef → Option ℕ
time_at time marks placed = time placed.1 (slice_index_or marks placed.0 (first_marks false false))

-- the times of services that have these marks, in declared order
abbrev pub times_of : (ServiceDef → Marks → Option ℕ) → List ServiceDef → List Marks → List (Option ℕ)
times_of time defs marks = map (time_at time marks) (enumerate_from 0 defs)
