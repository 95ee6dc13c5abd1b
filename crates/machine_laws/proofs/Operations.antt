-- What an operation on a service asks for: which operations leave the service its process, and what they have done.
use Rattle.std.proofs.Common.{◌≡◌, ℕ, zero, suc, Bool, true, false, ◌&&◌, ◌||◌, List, [], ◌∷◌, Option, Some, None, if◌then◌else◌, refl, slice_set, slice_index_or}
use Rattle.init_base.specs.declared.units.Pid.{Pid}
use Rattle.init_machine.specs.Marks.{Answer, does, start, stop, reset, with_reset, restart, class_restart, exec_start, timeout, service_step, first_marks}
use Rattle.init_machine.specs.Services.{marks_at, with_marks}
use Rattle.init_machine.specs.State.{State}
use Rattle.init_machine.specs.Tasks.{first}
use Rattle.init_machine.specs.declared.service.Marks.{Marks}
use Rattle.init_machine.specs.declared.service.Move.{Move}
use Rattle.init_machine.specs.declared.service.Move.TheVariants as move
use Rattle.init_machine.specs.declared.service.Op.{Op}
use Rattle.init_machine.specs.declared.service.Op.TheVariants as op

-- the operations that commands, sets and the clock ask for (`Spawned` and `Reaped` belong to the machine)
abbrev pub IsAsked : Op → Type 0
IsAsked op.Start = Unit {0}
IsAsked op.ClassStart = Unit {0}
IsAsked op.Stop = Unit {0}
IsAsked op.Reset = Unit {0}
IsAsked (op.Restart only_running) = Unit {0}
IsAsked (op.ClassRestart only_enabled) = Unit {0}
IsAsked op.Enable = Unit {0}
IsAsked op.ExecStart = Unit {0}
IsAsked op.Timeout = Unit {0}
IsAsked (op.Spawned pid now) = ⊥
IsAsked op.NoPid = Unit {0}
IsAsked op.Reaped = ⊥

-- a process is spawned where there is none, and killed where it is
abbrev pub MoveFits : Option Pid → Move → Type 0
MoveFits process move.Nothing = Unit {0}
MoveFits process move.Spawn = process ≡ None
MoveFits process (move.Kill pid) = process ≡ Some pid
MoveFits process move.Stopped = Unit {0}
MoveFits process move.Exited = Unit {0}

-- the marks keep their process
pub record Fits (m : Marks) (a : Answer) : Type 0 where
  pub process : a.marks.pid ≡ m.pid
  pub move : MoveFits m.pid a.todo

fits_choice : (m : Marks) (b : Bool) (first second : Answer) → Fits m first → Fits m second → Fits m (if b then first else second)
fits_choice m true first second one other = one
fits_choice m false first second one other = other

kill_fits : (b : Bool) (pid : Pid) (m n : Marks) → n.pid ≡ m.pid → m.pid ≡ Some pid
    → Fits m (if b then does n move.Nothing else does (record n { killed = true }) (move.Kill pid))
kill_fits true pid m n same is = record { process = same; move = tt }
kill_fits false pid m n same is = record { process = same; move = is }

start_fits : (process : Option Pid) (m n : Marks) → m.pid ≡ process → n.pid ≡ m.pid → Fits m (start process n)
start_fits (Some pid) m n is same = record { process = same; move = tt }
start_fits None m n is same = record { process = same; move = is }

class_start_fits : (b : Bool) (process : Option Pid) (m : Marks) → m.pid ≡ process → Fits m (if b then does (record m { wanted = true }) move.Nothing else start process m)
class_start_fits true process m is = record { process = refl; move = tt }
class_start_fits false process m is = start_fits process m m is refl

stop_fits : (process : Option Pid) (m : Marks) → m.pid ≡ process → Fits m (stop process m)
stop_fits (Some pid) m is = kill_fits m.killed pid m (record m { restarting = false; wanted = false; again = false; disabled = true }) refl is
stop_fits None m is = record { process = refl; move = tt }

reset_same : (b : Bool) (m : Marks) → (if b then record m { disabled = true } else record m { reset = true }).pid ≡ m.pid
reset_same true m = refl
reset_same false m = refl

reset_fits : (process : Option Pid) (m : Marks) → m.pid ≡ process → Fits m (reset process m)
reset_fits (Some pid) m is =
    kill_fits (with_reset m).killed pid m (with_reset m) (reset_same m.declared (record m { restarting = false; wanted = false; again = false })) is
reset_fits None m is = record { process = reset_same m.declared (record m { restarting = false; wanted = false; again = false }); move = tt }

restart_fits : (only_running : Bool) (process : Option Pid) (m : Marks) → m.pid ≡ process → Fits m (restart only_running process m)
restart_fits only_running (Some pid) m is = kill_fits m.killed pid m (record m { disabled = false; reset = false; wanted = false; again = true }) refl is
restart_fits only_running None m is =
    fits_choice m (m.restarting || only_running) (does m move.Nothing) (start None m) (record { process = refl; move = tt }) (start_fits None m m is refl)

class_restart_fits : (only_enabled : Bool) (m : Marks) → Fits m (class_restart only_enabled m.pid m)
class_restart_fits only_enabled m =
    fits_choice m (only_enabled && m.disabled) (does m move.Nothing) (restart false m.pid m) (record { process = refl; move = tt }) (restart_fits false m.pid m refl)

exec_start_fits : (process : Option Pid) (m : Marks) → m.pid ≡ process → Fits m (exec_start process m)
exec_start_fits (Some pid) m is = record { process = refl; move = tt }
exec_start_fits None m is = start_fits None m (record m { oneshot = true }) is refl

timeout_fits : (process : Option Pid) (m : Marks) → m.pid ≡ process → Fits m (timeout process m)
timeout_fits (Some pid) m is = kill_fits m.killed pid m m refl is
timeout_fits None m is = record { process = refl; move = tt }

-- an operation that is asked for leaves the service its process
pub step_fits : (what : Op) (m : Marks) → IsAsked what → Fits m (service_step what m)
unfolding service_step
step_fits op.Start m asked = start_fits m.pid m m refl refl
step_fits op.ClassStart m asked = class_start_fits m.disabled m.pid m refl
step_fits op.Stop m asked = stop_fits m.pid m refl
step_fits op.Reset m asked = reset_fits m.pid m refl
step_fits (op.Restart only_running) m asked = restart_fits only_running m.pid m refl
step_fits (op.ClassRestart only_enabled) m asked = class_restart_fits only_enabled m
step_fits op.Enable m asked =
    fits_choice m m.wanted (start m.pid (record m { disabled = false; declared = false })) (does (record m { disabled = false; declared = false }) move.Nothing)
    (start_fits m.pid m (record m { disabled = false; declared = false }) refl refl) (record { process = refl; move = tt })
step_fits op.ExecStart m asked = exec_start_fits m.pid m refl
step_fits op.Timeout m asked = timeout_fits m.pid m refl
step_fits (op.Spawned pid now) m asked = absurd asked
step_fits op.NoPid m asked = record { process = refl; move = tt }
step_fits op.Reaped m asked = absurd asked

at_place : (xs : List Marks) (at : ℕ) (m d : Marks) → m.pid ≡ (slice_index_or xs at d).pid → (slice_index_or (slice_set xs at m) at d).pid ≡ (slice_index_or xs at d).pid
at_place [] at m d same = refl
at_place (x ∷ xs) zero m d same = same
at_place (x ∷ xs) (suc at) m d same = at_place xs at m d same

-- marks with the same process leave the service its process
pub process_stays : (s : State) (at : ℕ) (m : Marks) → m.pid ≡ (marks_at s at).pid → (marks_at (with_marks s at m) at).pid ≡ (marks_at s at).pid
process_stays s at m same = at_place s.marks at m (first_marks false false) same
