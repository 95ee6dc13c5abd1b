-- What is done to a service: its marks, its process, and the property that tells its state (AOSP, init's README,
-- "Services" and "Properties"; the table of marks is this project's profile).
use Rattle.std.specs.Prelude.{ℕ, Bool, true, false, List, [], ◌∷◌, ◌++◌, codes, slice_get, slice_set, slice_index_or, position, Option, Some, None, if◌then◌else◌}
use Rattle.std.specs.List.{enumerate_from, list_any, filter_map}
use Rattle.std.specs.Str.{bytes_eq}
use Rattle.init_base.specs.declared.units.Pid.{Pid}
use Rattle.init_machine.specs.Changes.{Change, behind, nothing, each}
use Rattle.init_machine.specs.Kernel.{Kernel, has_pid, with_process, with_kill}
use Rattle.init_machine.specs.Marks.{first_marks, service_step}
use Rattle.init_machine.specs.Setting.{Judged, judged, set_answer, set_property, told_refusal, is_control, control_op}
use Rattle.init_machine.specs.State.{State, Rules}
use Rattle.init_machine.specs.declared.output.Output.{Output}
use Rattle.init_machine.specs.declared.output.Output.TheVariants as output
use Rattle.init_machine.specs.declared.service.Marks.{Marks}
use Rattle.init_machine.specs.declared.service.Move.{Move}
use Rattle.init_machine.specs.declared.service.Move.TheVariants as move
use Rattle.init_machine.specs.declared.service.Op.{Op}
use Rattle.init_machine.specs.declared.service.Op.TheVariants as op
use Rattle.init_machine.specs.declared.service.ServiceDef.{ServiceDef}

-- A service is meant by its place in the declared order.

abbrev pub place_of : Rules → List ℕ → Option ℕ
place_of rules name = position (λ service. bytes_eq service.name name) rules.services

-- a service that passes a test, by its place
abbrev pub place_if : (ServiceDef → Bool) → ℕ × ServiceDef → Option ℕ
place_if passes placed = if passes placed.1 then Some placed.0 else None

-- the places of the services that pass a test, in declared order
abbrev pub places_of : Rules → (ServiceDef → Bool) → List ℕ
places_of rules passes = filter_map (place_if passes) (enumerate_from 0 rules.services)

abbrev pub is_of_class : List ℕ → ServiceDef → Bool
is_of_class class service = list_any (λ other. bytes_eq other class) service.classes

abbrev pub service_at : Rules → ℕ → Option ServiceDef
service_at rules at = slice_get rules.services at

-- (a place that has no service isn't asked for)
abbrev pub marks_at : State → ℕ → Marks
marks_at s at = slice_index_or s.marks at (first_marks false false)

abbrev pub with_marks : State → ℕ → Marks → State
with_marks s at m = record s { marks = slice_set s.marks at m }

-- the property `init.svc.NAME` tells the state of the service NAME: init sets it, and a refusal is a line
abbrev pub state_name : List ℕ → List ℕ
state_name name = codes "init.svc." ++ name

unfoldable pub tell : Rules → List ℕ → List ℕ → State → Change
tell rules name word s = told_refusal (state_name name) (set_property rules s None (state_name name) word)

-- what was done to a service, and whether the kernel had a pid where a process was to be spawned; it counts as had where
-- none was
pub record Operated : Type 0 where
  pub done : Change
  pub had_pid : Bool

abbrev pub operated : Bool → Change → Operated
operated had_pid c = record { done = c; had_pid = had_pid }

abbrev pub pid_of : ℕ → Pid
pid_of number = record { 0 = number }

abbrev pub spawn_line : Kernel → List ℕ → List ℕ → Output
spawn_line kernel name path = output.Spawn (pid_of kernel.next_pid) name path

-- the service at a place has the next process
abbrev pub with_spawned : Rules → List ℕ → List ℕ → ℕ → State → State
with_spawned rules name path at s =
    let begun = record s { kernel = with_process rules.plans s.kernel name path } in
    with_marks begun at (service_step (op.Spawned (pid_of s.kernel.next_pid) (record { 0 = s.kernel.clock })) (marks_at s at)).marks

abbrev pub spawned : Rules → List ℕ → List ℕ → ℕ → State → Change
spawned rules name path at s =
    behind (spawn_line s.kernel name path ∷ []) (tell rules name (codes "running") (with_spawned rules name path at s))

-- the kernel has no pid: the service is stopped
abbrev pub not_spawned : Rules → List ℕ → ℕ → State → Change
not_spawned rules name at s =
    behind (output.NoPid name ∷ []) (tell rules name (codes "stopped") (with_marks s at (service_step op.NoPid (marks_at s at)).marks))

unfoldable pub spawn : Rules → List ℕ → List ℕ → ℕ → State → Operated
spawn rules name path at s =
    if has_pid s.kernel then operated true (spawned rules name path at s) else operated false (not_spawned rules name at s)

unfoldable pub kill_process : Rules → List ℕ → Pid → State → Change
kill_process rules name pid s =
    behind (output.Kill pid name ∷ []) (tell rules name (codes "stopping") (record s { kernel = with_kill s.kernel pid.0 }))

-- What follows from an operation on the service of this name and path. (Only a reaping gives `Exited`, and says itself what
-- follows: see `Reaping`.)
unfoldable pub follow : Rules → List ℕ → List ℕ → ℕ → Move → State → Operated
follow rules name path at move.Nothing s = operated true (nothing s)
follow rules name path at move.Spawn s = spawn rules name path at s
follow rules name path at (move.Kill pid) s = operated true (kill_process rules name pid s)
follow rules name path at move.Stopped s = operated true (tell rules name (codes "stopped") s)
follow rules name path at move.Exited s = operated true (nothing s)

-- (a place without a service isn't asked for)
abbrev pub operate_on : Rules → Option ServiceDef → ℕ → Op → State → Operated
operate_on rules None at what s = operated true (nothing s)
operate_on rules (Some service) at what s =
    let answer = service_step what (marks_at s at) in
    follow rules service.name service.path at answer.todo (with_marks s at answer.marks)

-- an operation on the service at a place
unfoldable pub operate : Rules → ℕ → Op → State → Operated
operate rules at what s = operate_on rules (service_at rules at) at what s

-- an operation on each service at some places, in their order
unfoldable pub operate_each : Rules → Op → List ℕ → State → Change
operate_each rules what places s = each (λ at now. (operate rules at what now).done) places s

-- A set by init, which is none here, or by a client of a domain: a control name has its operation done, and nothing is
-- stored.

abbrev pub control_at : Rules → Option Op → Option ℕ → State → Change
control_at rules None at s = nothing s
control_at rules (Some what) None s = nothing s
control_at rules (Some what) (Some at) s = (operate rules at what s).done

unfoldable pub set_by : Rules → Option (List ℕ) → List ℕ → List ℕ → State → Judged
set_by rules by name value s =
    if is_control name
    then judged (set_answer rules s by name value) s (control_at rules (control_op name) (place_of rules value) s)
    else set_property rules s by name value
