-- What the table of marks says of a service whose process ends, and of processes (the laws of `laws.rt`).
use Rattle.std.specs.Prelude.{◌≡◌, ◌≢◌, Bool, true, false, Some, None}
use Rattle.init_base.specs.declared.units.Pid.{Pid}
use Rattle.init_machine.specs.Marks.{Answer, service_step}
use Rattle.init_machine.specs.declared.service.Marks.{Marks}
use Rattle.init_machine.specs.declared.service.Move.{Move}
use Rattle.init_machine.specs.declared.service.Move.TheVariants as move
use Rattle.init_machine.specs.declared.service.Op.{Op}
use Rattle.init_machine.specs.declared.service.Op.TheVariants as op

-- a service with a process
abbrev pub running : Pid → Marks → Marks
running pid m = record m { pid = Some pid }

-- the marks that an operation leaves
abbrev pub after : Op → Marks → Marks
after what m = (service_step what m).marks

-- what an operation asks for
abbrev pub asked : Op → Marks → Move
asked what m = (service_step what m).todo

-- the service has no process, and none is to come
abbrev pub IsOff : Answer → Type 0
IsOff answer = (answer.todo ≡ move.Stopped) × (answer.marks.pid ≡ None) × (answer.marks.restarting ≡ false)

-- the service has no process, and is to be restarted
abbrev pub IsRestarting : Answer → Type 0
IsRestarting answer = (answer.todo ≡ move.Exited) × (answer.marks.pid ≡ None) × (answer.marks.restarting ≡ true)

-- the service's class doesn't start it: it is wanted until it is enabled
abbrev pub IsOnlyWanted : Marks → Type 0
IsOnlyWanted m = (asked op.ClassStart m ≡ move.Nothing) × ((after op.ClassStart m).wanted ≡ true)

-- A service that was stopped is off when its process has ended, and its class doesn't start it.
abbrev pub StoppedStaysOff : Type 0
StoppedStaysOff = (m : Marks) (pid : Pid) →
    let answer = service_step op.Reaped (after op.Stop (running pid m)) in IsOff answer × IsOnlyWanted answer.marks

-- A service that was reset is off when its process has ended, and its class starts it, also where it is oneshot.
abbrev pub ResetStartsWithItsClass : Type 0
ResetStartsWithItsClass = (m : Marks) (pid : Pid) → m.disabled ≡ false → m.declared ≡ false →
    let answer = service_step op.Reaped (after op.Reset (running pid m)) in IsOff answer × (asked op.ClassStart answer.marks ≡ move.Spawn)

-- A service that is declared disabled and was reset is off when its process has ended, and its class doesn't start it.
abbrev pub DisabledStaysOff : Type 0
DisabledStaysOff = (m : Marks) (pid : Pid) → m.declared ≡ true →
    let answer = service_step op.Reaped (after op.Reset (running pid m)) in IsOff answer × IsOnlyWanted answer.marks

-- A oneshot service that isn't restarted or reset is off when its process has ended, and its class doesn't start it again.
abbrev pub OneshotRunsOnce : Type 0
OneshotRunsOnce = (m : Marks) (pid : Pid) → m.oneshot ≡ true → m.again ≡ false → m.reset ≡ false → m.restarting ≡ false →
    let answer = service_step op.Reaped (running pid m) in IsOff answer × IsOnlyWanted answer.marks

-- A service that is none of disabled, oneshot and reset is restarted when its process has ended.
abbrev pub OthersRestart : Type 0
OthersRestart = (m : Marks) (pid : Pid) → m.disabled ≡ false → m.oneshot ≡ false → m.reset ≡ false → IsRestarting (service_step op.Reaped (running pid m))

-- A service that was told to restart is restarted when its process has ended, also where it is oneshot or was stopped.
abbrev pub RestartRestarts : Type 0
RestartRestarts = (m : Marks) (pid : Pid) (only_running : Bool) → IsRestarting (service_step op.Reaped (after (op.Restart only_running) (running pid m)))

-- A service that was stopped and then started, while its process still runs, is restarted when that process has ended.
abbrev pub StartUndoesStop : Type 0
StartUndoesStop = (m : Marks) (pid : Pid) → IsRestarting (service_step op.Reaped (after op.Start (after op.Stop (running pid m))))

-- No operation spawns a second process of a service.
abbrev pub OneProcess : Type 0
OneProcess = (what : Op) (m : Marks) (pid : Pid) → asked what (running pid m) ≢ move.Spawn

-- No operation kills a process that was killed.
abbrev pub KilledOnce : Type 0
KilledOnce = (what : Op) (m : Marks) (pid : Pid) → m.killed ≡ true → asked what m ≢ move.Kill pid
