-- What the end of a process brings about: restarts, the commands of `onrestart`, critical services, and the end of a wait
-- (AOSP, init's README, "Services", and "Options" for `critical` and `onrestart`; the counting of critical exits, and that the
-- state is told before `onrestart` runs, are this project's profile).
use Rattle.std.specs.Prelude.{ℕ, ◌+◌, Bool, false, not, ◌||◌, ◌==◌, nat_lt, List, [], ◌∷◌, codes, slice_set, slice_index_or, Option, Some, None, if◌then◌else◌}
use Rattle.std.specs.Str.{bytes_eq}
use Rattle.init_machine.specs.Changes.{Change, change, behind, nothing, and_then, each}
use Rattle.init_machine.specs.Effect.{effect}
use Rattle.init_machine.specs.Matches.{or_empty}
use Rattle.init_machine.specs.Marks.{service_step}
use Rattle.init_machine.specs.Services.{marks_at, with_marks, service_at, place_of, pid_of, tell}
use Rattle.init_machine.specs.Setting.{released_lines, still_waits}
use Rattle.init_machine.specs.State.{State, Rules, Exits, no_exits, value_now}
use Rattle.init_machine.specs.declared.output.How.{How}
use Rattle.init_machine.specs.declared.output.Output.TheVariants as output
use Rattle.init_machine.specs.declared.waiting.Waiting.{Waiting}
use Rattle.init_machine.specs.declared.waiting.Waiting.TheVariants.{Child, Prop, File}
use Rattle.init_machine.specs.declared.service.Critical.{Critical}
use Rattle.init_machine.specs.declared.service.Move.{Move}
use Rattle.init_machine.specs.declared.service.Move.TheVariants as move
use Rattle.init_machine.specs.declared.service.Op.TheVariants as op
use Rattle.init_machine.specs.declared.service.ServiceDef.{ServiceDef}

-- boot is completed where `sys.boot_completed` is `1` or `true`
abbrev pub is_boot_completed : State → Bool
is_boot_completed s =
    let value = or_empty (value_now s (codes "sys.boot_completed")) in bytes_eq value (codes "1") || bytes_eq value (codes "true")

-- An exit is counted: while boot isn't completed, or within the window, the count rises; else a new window begins.
abbrev pub counted : Bool → ℕ → ℕ → Exits → Exits
counted booted now window exits =
    if not booted || nat_lt now (exits.since + window) then record exits { count = exits.count + 1 } else record { count = 1; since = now }

abbrev pub exits_at : State → ℕ → Exits
exits_at s at = slice_index_or s.exits at no_exits

abbrev pub with_exits : State → ℕ → Exits → State
with_exits s at exits = record s { exits = slice_set s.exits at exits }

-- the service is restarting, and the commands of its `onrestart` run
abbrev pub restarting : Rules → ServiceDef → State → Change
restarting rules service s = and_then (tell rules service.name (codes "restarting") s) (each (effect rules) service.onrestart)

-- the machine is over, by a reboot
abbrev pub reboot : List ℕ → State → Change
reboot target s = change (record s { over = Some target }) (output.Reboot target ∷ [])

-- the fifth counted exit reboots
abbrev pub by_count : Rules → ServiceDef → List ℕ → Exits → State → Change
by_count rules service target exits s = if nat_lt 4 exits.count then reboot target s else restarting rules service s

abbrev pub exited_by : Rules → ServiceDef → ℕ → Option Critical → State → Change
exited_by rules service at None s = restarting rules service s
exited_by rules service at (Some critical) s =
    let exits = counted (is_boot_completed s) s.kernel.clock critical.window.0 (exits_at s at) in
    by_count rules service critical.target exits (with_exits s at exits)

-- a service whose process has ended is to be restarted, unless the end is one too many of a critical service
unfoldable pub exited : Rules → ServiceDef → ℕ → State → Change
exited rules service at s = exited_by rules service at service.critical s

-- what follows from the end of a service's process (which is always that it stopped or that it exited)
abbrev pub follow_end : Rules → ServiceDef → ℕ → Move → State → Change
follow_end rules service at move.Nothing s = nothing s
follow_end rules service at move.Spawn s = nothing s
follow_end rules service at (move.Kill pid) s = nothing s
follow_end rules service at move.Stopped s = tell rules service.name (codes "stopped") s
follow_end rules service at move.Exited s = exited rules service at s

abbrev pub end_service : Rules → ℕ → Option ServiceDef → State → Change
end_service rules at None s = nothing s
end_service rules at (Some service) s =
    let answer = service_step op.Reaped (marks_at s at) in follow_end rules service at answer.todo (with_marks s at answer.marks)

-- the child of `exec` belongs to no service
abbrev pub end_named : Rules → Option ℕ → State → Change
end_named rules None s = nothing s
end_named rules (Some at) s = end_service rules at (service_at rules at) s

-- a wait for the child ends behind all else
abbrev pub awaits_child : Option Waiting → ℕ → Bool
awaits_child None pid = false
awaits_child (Some (Child awaited)) pid = awaited.0 == pid
awaits_child (Some (Prop awaited)) pid = false
awaits_child (Some (File path until)) pid = false

abbrev pub release_child : ℕ → State → Change
release_child pid s =
    change (record s { waits = still_waits (awaits_child s.waits pid) s.waits }) (released_lines (awaits_child s.waits pid))

-- a process that has left the kernel is reaped
unfoldable pub reap : Rules → ℕ → List ℕ → How → State → Change
reap rules pid name how s =
    and_then (behind (output.Reap (pid_of pid) name how ∷ []) (end_named rules (place_of rules name) s)) (release_child pid)
