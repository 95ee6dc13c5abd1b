-- What becomes of a service's marks, and what is to be done then (the table of service marks is this project's profile
-- of AOSP's README, "Services", "Options" and "Commands").
use Rattle.std.specs.Prelude.{Bool, true, false, not, ◌&&◌, ◌||◌, Option, Some, None, if◌then◌else◌}
use Rattle.init_base.specs.declared.units.Pid.{Pid}
use Rattle.init_machine.specs.declared.service.Marks.{Marks}
use Rattle.init_machine.specs.declared.service.Move.{Move}
use Rattle.init_machine.specs.declared.service.Move.TheVariants as move
use Rattle.init_machine.specs.declared.service.Op.{Op}
use Rattle.init_machine.specs.declared.service.Op.TheVariants as op

-- The marks, with init's own flag in brackets where it has one:
--   pid         its process, where it has one (RUNNING)
--   killed      the process was killed, and isn't reaped yet
--   disabled    its class doesn't start it, and it isn't restarted (DISABLED)
--   declared    its section has `disabled`, and it wasn't enabled since (RC_DISABLED)
--   oneshot     it isn't restarted when its process has ended (ONESHOT)
--   reset       it was stopped with its class, which may start it again (RESET)
--   again       it starts once more when its process has ended, oneshot or not (RESTART)
--   restarting  its process has ended, and it waits until it is due (RESTARTING)
--   wanted      its class was started while it was disabled (DISABLED_START)
--   started     when its last process was spawned

-- the marks of a service that was just declared: `disabled` and `oneshot` are those of its options
abbrev pub first_marks : Bool → Bool → Marks
first_marks disabled oneshot = record {
  pid = None;
  killed = false;
  disabled = disabled;
  declared = disabled;
  oneshot = oneshot;
  reset = false;
  again = false;
  restarting = false;
  wanted = false;
  started = record { 0 = 0 };
}

-- the new marks, and what is to be done
pub record Answer : Type 0 where
  pub marks : Marks
  pub todo : Move

abbrev pub does : Marks → Move → Answer
does m todo = record { marks = m; todo = todo }

-- a process is killed once
abbrev pub kill : Pid → Marks → Answer
kill pid m = if m.killed then does m move.Nothing else does (record m { killed = true }) (move.Kill pid)

-- Each row of the table has two cells: with a process, and without.

-- a oneshot service that is to stop, or was reset, starts again when its process has ended
abbrev pub start : Option Pid → Marks → Answer
start (Some pid) m =
    does (record m {
      again = m.again || (m.oneshot && (m.disabled || m.reset));
      disabled = false;
      reset = false;
      restarting = false;
      wanted = false;
    }) move.Nothing
start None m = does (record m { disabled = false; reset = false; again = false; restarting = false; wanted = false }) move.Spawn

-- a disabled service is only wanted, until it is enabled
abbrev pub class_start : Option Pid → Marks → Answer
class_start process m = if m.disabled then does (record m { wanted = true }) move.Nothing else start process m

abbrev pub stop : Option Pid → Marks → Answer
stop (Some pid) m = kill pid (record m { restarting = false; wanted = false; again = false; disabled = true })
stop None m = does (record m { restarting = false; wanted = false; again = false; disabled = true }) move.Stopped

-- a service that is declared disabled stays disabled; another one may be started by its class again
abbrev pub with_reset : Marks → Marks
with_reset m =
    let off = record m { restarting = false; wanted = false; again = false } in
    if m.declared then record off { disabled = true } else record off { reset = true }

abbrev pub reset : Option Pid → Marks → Answer
reset (Some pid) m = kill pid (with_reset m)
reset None m = does (with_reset m) move.Stopped

abbrev pub restart : Bool → Option Pid → Marks → Answer
restart only_running (Some pid) m = kill pid (record m { disabled = false; reset = false; wanted = false; again = true })
restart only_running None m = if m.restarting || only_running then does m move.Nothing else start None m

abbrev pub class_restart : Bool → Option Pid → Marks → Answer
class_restart only_enabled process m = if only_enabled && m.disabled then does m move.Nothing else restart false process m

abbrev pub enable : Option Pid → Marks → Answer
enable process m =
    let on = record m { disabled = false; declared = false } in
    if m.wanted then start process on else does on move.Nothing

abbrev pub exec_start : Option Pid → Marks → Answer
exec_start (Some pid) m = does m move.Nothing
exec_start None m = start None (record m { oneshot = true })

abbrev pub timeout : Option Pid → Marks → Answer
timeout (Some pid) m = kill pid m
timeout None m = does m move.Nothing

-- the process has ended: a disabled or reset service is stopped, and another one is to be restarted
abbrev pub ended : Marks → Answer
ended m =
    if m.disabled || m.reset then does (record m { again = false }) move.Stopped
    else does (record m { again = false; restarting = true }) move.Exited

-- a oneshot service is disabled when its process has ended, unless it is to start again or was reset
abbrev pub reaped : Marks → Answer
reaped m = ended (record m { pid = None; killed = false; disabled = m.disabled || (m.oneshot && not m.again && not m.reset) })

-- The table. `Spawned` and `NoPid` are asked where there is no process, `Reaped` where there is one.
unfoldable pub service_step : Op → Marks → Answer
service_step op.Start m = start m.pid m
service_step op.ClassStart m = class_start m.pid m
service_step op.Stop m = stop m.pid m
service_step op.Reset m = reset m.pid m
service_step (op.Restart only_running) m = restart only_running m.pid m
service_step (op.ClassRestart only_enabled) m = class_restart only_enabled m.pid m
service_step op.Enable m = enable m.pid m
service_step op.ExecStart m = exec_start m.pid m
service_step op.Timeout m = timeout m.pid m
service_step (op.Spawned pid now) m = does (record m { pid = Some pid; killed = false; started = now }) move.Nothing
service_step op.NoPid m = does (record m { restarting = false }) move.Stopped
service_step op.Reaped m = reaped m
