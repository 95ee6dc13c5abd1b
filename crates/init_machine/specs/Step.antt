-- What an input does: the new state and the outputs (AOSP, init's README, "Trigger Sequence", for a boot; one command an
-- input, and the inputs of a modelled kernel and of clients, are this project's profile).
use Rattle.std.specs.Prelude.{ℕ, ◌+◌, ◌-◌, Bool, true, false, ◌&&◌, ◌||◌, nat_lt, nat_le, List, [], ◌∷◌, ◌++◌, codes, slice_index_or, is_some, Option, Some, None, if◌then◌else◌}
use Rattle.std.specs.List.{enumerate_from, filter_map}
use Rattle.std.specs.Str.{bytes_eq}
use Rattle.init_base.specs.declared.units.Millis.{Millis}
use Rattle.init_base.specs.declared.units.ClientId.{ClientId}
use Rattle.init_machine.specs.Changes.{Change, change, behind, nothing, and_then, each}
use Rattle.init_machine.specs.Effect.{effect}
use Rattle.init_machine.specs.FileTree.{tree_refusal, tree_after, has_node}
use Rattle.init_machine.specs.Kernel.{Process, last_time, first_named, without, how_ended, ending_at, at_time}
use Rattle.init_machine.specs.Matches.{matches, or_empty}
use Rattle.init_machine.specs.Pairs.{last_pairs}
use Rattle.init_machine.specs.Reaping.{reap}
use Rattle.init_machine.specs.Services.{operate_each, marks_at, set_by}
use Rattle.init_machine.specs.Setting.{is_control, told_refusal}
use Rattle.init_machine.specs.Policy.{PolicyLines}
use Rattle.init_machine.specs.State.{State, Rules, rules_of, value_now}
use Rattle.init_machine.specs.Taking.{Taken, taken_now}
use Rattle.init_machine.specs.declared.action.Command.{Command}
use Rattle.init_machine.specs.declared.action.Action.{Action}
use Rattle.init_machine.specs.declared.config.Config.{Config}
use Rattle.init_machine.specs.declared.config.Pair.{Pair}
use Rattle.init_machine.specs.declared.event.Event.{Event}
use Rattle.init_machine.specs.declared.event.Event.TheVariants.{Named, Mark}
use Rattle.init_machine.specs.declared.input.Input.{Input}
use Rattle.init_machine.specs.declared.input.Input.TheVariants as input
use Rattle.init_machine.specs.declared.output.Cause.TheVariants as cause
use Rattle.init_machine.specs.declared.output.FsRefusal.{FsRefusal}
use Rattle.init_machine.specs.declared.output.How.TheVariants as how
use Rattle.init_machine.specs.declared.output.Output.{Output}
use Rattle.init_machine.specs.declared.output.Output.TheVariants as output
use Rattle.init_machine.specs.declared.output.SetRefusal.{SetRefusal}
use Rattle.init_machine.specs.declared.waiting.Waiting.{Waiting}
use Rattle.init_machine.specs.declared.waiting.Waiting.TheVariants as waiting
use Rattle.init_machine.specs.declared.service.Marks.{Marks}
use Rattle.init_machine.specs.declared.service.Op.TheVariants as op
use Rattle.init_machine.specs.declared.service.ServiceDef.{ServiceDef}
use Rattle.init_machine.specs.declared.task.TreeCall.TheVariants as call

-- Most inputs ask first whether the machine is over.
abbrev pub unless_down : Option (List ℕ) → State → (State → Change) → Change
unless_down None s rule = rule s
unless_down (Some target) s rule = change s (output.Down ∷ [])

-- Boot.

-- the last pair of each name in the build files is set by init, in ascending order of names
abbrev pub set_pair : Rules → Pair → State → Change
set_pair rules p s = told_refusal p.name (set_by rules None p.name p.value s)

-- (No `and_then` here: a boot of a machine that is over is refused each set, and goes on.)
abbrev pub set_pairs : Rules → List Pair → State → Change
set_pairs rules [] s = nothing s
set_pairs rules (p ∷ rest) s = let first = set_pair rules p s in behind first.lines (set_pairs rules rest first.state)

-- a device that charges doesn't come to `late-init`
abbrev pub last_stage : State → List ℕ
last_stage s =
    if bytes_eq (or_empty (value_now s (codes "ro.bootmode"))) (codes "charger") then codes "charger" else codes "late-init"

-- the events of a boot, and behind them the mark
abbrev pub boot_events : State → List Event
boot_events s = Named (codes "early-init") ∷ Named (codes "init") ∷ Named (last_stage s) ∷ Mark ∷ []

abbrev pub queue_boot : State → State
queue_boot s = record s { events = s.events ++ boot_events s; had_boot = true }

abbrev pub first_boot : List Pair → Rules → State → Change
first_boot pairs rules s = let set = set_pairs rules (last_pairs pairs) s in change (queue_boot set.state) set.lines

-- the first boot sets the pairs and queues its events; a later one is idle
unfoldable pub boot : List Pair → Rules → State → Change
boot pairs rules s = if s.had_boot then change s (output.Idle ∷ []) else first_boot pairs rules s

-- Next.

-- an action whose last command was taken leaves
abbrev pub left_of : List Command → List (List Command) → List (List Command)
left_of [] rest = rest
left_of (c ∷ commands) rest = (c ∷ commands) ∷ rest

-- The next command of the first running action runs; where none runs, the machine is idle. (An action without commands
-- isn't kept, and one whose last command was taken has left.)
abbrev pub run_first : Rules → List (List Command) → State → Change
run_first rules [] s = change s (output.Idle ∷ [])
run_first rules ([] ∷ rest) s = nothing (record s { running = rest })
run_first rules ((c ∷ commands) ∷ rest) s = effect rules c (record s { running = left_of commands rest })

abbrev pub with_taken : State → Taken → State
with_taken s t = record s { events = t.events; running = t.running; changes = s.changes || t.changes }

-- events are taken, and one command runs
abbrev pub take_and_run : List Action → Rules → State → Change
take_and_run actions rules s =
    let taken = taken_now (matches (value_now s)) actions s.running s.events in
    behind taken.lines (run_first rules taken.running (with_taken s taken))

abbrev pub unless_waiting : Option Waiting → State → (State → Change) → Change
unless_waiting None s rule = rule s
unless_waiting (Some what) s rule = change s (output.Blocked ∷ [])

unfoldable pub next : List Action → Rules → State → Change
next actions rules s = unless_waiting s.waits s (take_and_run actions rules)

-- Tick.

abbrev pub reap_ended : Rules → Process → State → Change
reap_ended rules p s = reap rules p.pid p.name (how_ended p) s

-- a service, its place and its marks
abbrev pub placed_if : (ServiceDef → Marks → Bool) → State → ℕ × ServiceDef → Option ℕ
placed_if passes s placed = if passes placed.1 (marks_at s placed.0) then Some placed.0 else None

abbrev pub places_now : Rules → (ServiceDef → Marks → Bool) → State → List ℕ
places_now rules passes s = filter_map (placed_if passes s) (enumerate_from 0 rules.services)

-- a service's process has run for as long as its timeout allows
abbrev pub is_timed_out : ℕ → Option Millis → ℕ → Bool
is_timed_out now None started = false
is_timed_out now (Some timeout) started = nat_le (started + timeout.0) now

abbrev pub has_timed_out : ℕ → ServiceDef → Marks → Bool
has_timed_out now service m = is_some m.pid && is_timed_out now service.timeout m.started.0

-- a restarting service is due a period after its last start
abbrev pub due_time : ServiceDef → Marks → ℕ
due_time service m = m.started.0 + service.period.0

abbrev pub is_due : ℕ → ServiceDef → Marks → Bool
is_due now service m = m.restarting && nat_le (due_time service m) now

abbrev pub time_out : Rules → State → Change
time_out rules s = operate_each rules op.Timeout (places_now rules (has_timed_out s.kernel.clock) s) s

abbrev pub restart_due : Rules → State → Change
restart_due rules s = operate_each rules op.Start (places_now rules (is_due s.kernel.clock) s) s

-- The clock moves, and the processes that are killed or due then leave the kernel together. They are reaped in the order of
-- their pids; then services are timed out; then those that are due are started.
abbrev pub move_clock : Rules → ℕ → State → Change
move_clock rules now s =
    let ended = ending_at s.kernel now in
    and_then (and_then (each (reap_ended rules) ended (record s { kernel = at_time s.kernel now })) (time_out rules)) (restart_due rules)

unfoldable pub tick : Rules → ℕ → State → Change
tick rules ms s = if nat_lt last_time (s.kernel.clock + ms) then change s (output.TooFar ∷ []) else move_clock rules (s.kernel.clock + ms) s

-- Exit: the process of this name with the least pid exits.

abbrev pub exit_of : Rules → ℕ → Option Process → State → Change
exit_of rules status None s = change s (output.NoProcess ∷ [])
exit_of rules status (Some p) s = reap rules p.pid p.name (how.Exit status) (record s { kernel = without s.kernel p.pid })

unfoldable pub exit : Rules → List ℕ → ℕ → State → Change
exit rules name status s = exit_of rules status (first_named s.kernel name) s

-- File: a file appears in the tree.

abbrev pub file_by : Option FsRefusal → List ℕ → List ℕ → State → Change
file_by None path content s = change (record s { tree = tree_after s.tree (call.Write path content) }) (output.Tree path ∷ [])
file_by (Some why) path content s = change s (output.Failed (cause.Tree why) ∷ [])

unfoldable pub file : List ℕ → List ℕ → State → Change
file path content s = file_by (tree_refusal s.tree (call.Write path content)) path content s

-- Set: a client, by the domain of its number, asks for a property to be set.

-- (A client's number is one of the configuration's, from 1: whoever opens a machine asks for it.)
abbrev pub domain_of : List (List ℕ) → ClientId → List ℕ
domain_of domains who = slice_index_or domains (who.0 - 1) []

abbrev pub answer_line : Option SetRefusal → Bool → ℕ → Output
answer_line (Some why) control count = output.Refused why
answer_line None true count = output.Control count
answer_line None false count = output.Accepted count

unfoldable pub ask : Rules → List ℕ → List ℕ → List ℕ → State → Change
ask rules domain name value s =
    let answer = set_by rules (Some domain) name value s in
    change answer.done.state (answer.done.lines ++ answer_line answer.refused (is_control name) answer.done.state.props.count ∷ [])

-- At the end of each input, unless the machine is over, a wait for a file ends where the path is in the tree, and else
-- where its time has come.

abbrev pub settle_by : Bool → Bool → State → Change
settle_by true late s = change (record s { waits = None }) (output.Released ∷ [])
settle_by false true s = change (record s { waits = None }) (output.Timeout ∷ [])
settle_by false false s = nothing s

abbrev pub settle_wait : Option Waiting → State → Change
settle_wait None s = nothing s
settle_wait (Some (waiting.Child pid)) s = nothing s
settle_wait (Some (waiting.Prop awaited)) s = nothing s
settle_wait (Some (waiting.File path until)) s = settle_by (has_node s.tree path) (nat_le until.0 s.kernel.clock) s

unfoldable pub settle : State → Change
settle s = settle_wait s.waits s

-- what an input does before it is settled
unfoldable pub respond : Config → Rules → Input → State → Change
respond config rules input.Boot s = boot config.pairs rules s
respond config rules input.Next s = unless_down s.over s (next config.actions rules)
respond config rules (input.Tick ms) s = unless_down s.over s (tick rules ms)
respond config rules (input.Exit name status) s = unless_down s.over s (exit rules name status)
respond config rules (input.File path content) s = unless_down s.over s (file path content)
respond config rules (input.Set who name value) s = ask rules (domain_of config.domains who) name value s

-- the step of the machine at an input
unfoldable pub step : Config → PolicyLines → State → Input → Change
step config policy s i = and_then (respond config (rules_of config policy) i s) settle
