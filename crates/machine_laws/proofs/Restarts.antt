-- The commands of `onrestart` run behind the reaping of their service, in order; no other input but a Next runs commands.
use Rattle.std.proofs.Common.{◌≡◌, ℕ, ◌+◌, Bool, true, false, nat_lt, List, [], ◌∷◌, ◌++◌, drop, codes, Option, Some, None, if◌then◌else◌, refl, sym, ap, ◌∙◌}
use Rattle.std.proofs.lemmas.Grind.{flat_map-append}
use Rattle.std.specs.List.{flat_map}
use Rattle.init_machine.specs.Changes.{Change, change, behind, unless_over, and_then, each}
use Rattle.init_machine.specs.Effect.{end_command, ran_by, expand_all, effect}
use Rattle.init_machine.specs.Kernel.{Process, last_time, how_ended, ending_at, at_time, without, first_named}
use Rattle.init_machine.specs.Marks.{service_step}
use Rattle.init_machine.specs.Reaping.{is_boot_completed, counted, exits_at, with_exits, restarting, reboot, exited_by, exited, follow_end, end_service, end_named, awaits_child, release_child, reap}
use Rattle.init_machine.specs.Services.{marks_at, with_marks, service_at, place_of, pid_of, tell}
use Rattle.init_machine.specs.State.{State, Rules, value_now}
use Rattle.init_machine.specs.Step.{reap_ended, time_out, restart_due, move_clock, tick, exit_of, exit}
use Rattle.init_machine.specs.declared.action.Command.{Command}
use Rattle.init_machine.specs.declared.output.How.{How}
use Rattle.init_machine.specs.declared.output.How.TheVariants as how
use Rattle.init_machine.specs.declared.output.Output.{Output}
use Rattle.init_machine.specs.declared.output.Output.TheVariants as output
use Rattle.init_machine.specs.declared.service.Critical.{Critical}
use Rattle.init_machine.specs.declared.service.Move.{Move}
use Rattle.init_machine.specs.declared.service.Move.TheVariants as move
use Rattle.init_machine.specs.declared.service.Op.TheVariants as op
use Rattle.init_machine.specs.declared.service.ServiceDef.{ServiceDef}
use Rattle.machine_laws.specs.InOrder.{action_in, commands_of, service_in, onrestart_of, IsDone, FollowsReaping}
use Rattle.machine_laws.proofs.Calm.{Calm, calm_sets, calm_acts, calm_line, no_actions, calm_then_follows, calm_follows}
use Rattle.machine_laws.proofs.Options.{value_is_none}
use Rattle.machine_laws.proofs.Performing.{command_ends_by}
use Rattle.machine_laws.proofs.Reaping.{released_by}
use Rattle.machine_laws.proofs.Relation.{By, Sets, either, and_then_by, each_by}
use Rattle.machine_laws.proofs.Setting.{tell_by}
use Rattle.machine_laws.proofs.Stepping.{time_out_by, restart_due_by}

follows-append : (rules : Rules) (some : Bool) (left : List Command) (first second : List Output) → FollowsReaping rules some left first
    → ((b : Bool) (rest : List Command) → IsDone b rest → FollowsReaping rules b rest second) → FollowsReaping rules some left (first ++ second)
follows-append rules some left [] second one other = other some left one
follows-append rules some left (output.Reap pid name how ∷ first) second one other = (one.0, follows-append rules false (onrestart_of rules name) first second one.1 other)
follows-append rules some left (output.Command file line word args ∷ first) second one other = (one.0, follows-append rules true (drop 1 left) first second one.1 other)
follows-append rules some left (_ ∷ first) second one other = follows-append rules some left first second one other

-- commands follow reapings, whatever was left
pub record Restarts (rules : Rules) (s : State) (lines : List Output) (t : State) : Type 0 where
  pub follows : (some : Bool) (left : List Command) → IsDone some left → FollowsReaping rules some left lines
  pub running : t.running ≡ s.running
  pub actions : flat_map action_in lines ≡ []

no_more : (first second : List Output) → flat_map action_in first ≡ [] → flat_map action_in second ≡ [] → flat_map action_in (first ++ second) ≡ []
no_more first second one other = flat_map-append action_in first second ∙ ap (λ xs. xs ++ flat_map action_in second) one ∙ other

restarts_joined : (rules : Rules) (s t u : State) (first second : List Output) → Restarts rules s first t → Restarts rules t second u → Restarts rules s (first ++ second) u
restarts_joined rules s t u first second one other = record {
  follows = λ some left done. follows-append rules some left first second (one.follows some left done) other.follows;
  running = other.running ∙ one.running;
  actions = no_more first second one.actions other.actions;
}

pub of_calm : (rules : Rules) (s : State) (lines : List Output) (t : State) → Calm s lines t → Restarts rules s lines t
of_calm rules s lines t calm = record { follows = λ some left done. calm_follows rules some left lines calm.calm done; running = calm.running; actions = no_actions lines calm.calm }

pub restarts_sets : (rules : Rules) → Sets rules (Restarts rules)
restarts_sets rules = record {
  none = λ s. of_calm rules s [] s ((calm_sets rules).none s);
  joined = restarts_joined rules;
  line = λ s o plain. of_calm rules s (o ∷ []) s ((calm_sets rules).line s o plain);
  stored = λ s name on. of_calm rules s _ s ((calm_sets rules).stored s name on);
  aside = λ s t same. of_calm rules s [] t ((calm_sets rules).aside s t same);
  put = λ s by name value accepted. of_calm rules s _ _ ((calm_sets rules).put s by name value accepted);
}

-- commands follow those that are left
record From (rules : Rules) (some : Bool) (left : List Command) (s : State) (c : Change) : Type 0 where
  follows : FollowsReaping rules some left c.lines
  running : c.state.running ≡ s.running
  actions : flat_map action_in c.lines ≡ []

from_calm : (rules : Rules) (left : List Command) (s : State) (c : Change) → By Calm s c → From rules false left s c
from_calm rules left s c calm = record { follows = calm_follows rules false left c.lines calm.calm tt; running = calm.running; actions = no_actions c.lines calm.calm }

calm_from : (rules : Rules) (left : List Command) (s : State) (over : Option (List ℕ)) (c : Change) (rule : State → Change) → c.state.over ≡ over → By Calm s c
    → ((t : State) → t.over ≡ None → From rules false left t (rule t)) → From rules false left s (unless_over over c rule)
calm_from rules left s None c rule is calm later =
    let rest = later c.state is in
    record {
      follows = calm_then_follows rules false left c.lines (rule c.state).lines calm.calm rest.follows;
      running = rest.running ∙ calm.running;
      actions = no_more c.lines (rule c.state).lines (no_actions c.lines calm.calm) rest.actions;
    }
calm_from rules left s (Some target) c rule is calm later = from_calm rules left s c calm

-- what a command does behind its line
abbrev pub command_end : Rules → Command → State → Change
command_end rules c s = end_command (ran_by rules c (expand_all (value_now s) c.args) s)

pub command_is_calm : (rules : Rules) (c : Command) (s : State) → s.over ≡ None → By Calm s (command_end rules c s)
command_is_calm rules c s on = command_ends_by rules Calm (calm_acts rules) c s on

command_from : (rules : Rules) (some : Bool) (c : Command) (left : List Command) (s : State) (over : Option (List ℕ)) (rule : State → Change) → s.over ≡ None
    → (effect rules c s).state.over ≡ over → ((t : State) → t.over ≡ None → From rules true left t (rule t))
    → From rules some (c ∷ left) s (unless_over over (effect rules c s) rule)
unfolding effect
command_from rules some c left s None rule on is later =
    let did = command_end rules c s in
    let calm = command_is_calm rules c s on in
    let rest = later did.state is in
    record {
      follows = (refl, calm_then_follows rules true left did.lines (rule did.state).lines calm.calm rest.follows);
      running = rest.running ∙ calm.running;
      actions = no_more did.lines (rule did.state).lines (no_actions did.lines calm.calm) rest.actions;
    }
command_from rules some c left s (Some target) rule on is later =
    absurd (value_is_none target (sym is ∙ (command_is_calm rules c s on).over ∙ on))

none_left : (some : Bool) → IsDone some []
none_left true = refl
none_left false = tt

commands_from : (rules : Rules) (some : Bool) (commands : List Command) (s : State) → s.over ≡ None → From rules some commands s (each (effect rules) commands s)
commands_from rules some [] s on = record { follows = none_left some; running = refl; actions = refl }
commands_from rules some (c ∷ commands) s on =
    command_from rules some c commands s (effect rules c s).state.over (each (effect rules) commands) on refl (commands_from rules true commands)

restarting_from : (rules : Rules) (service : ServiceDef) (s : State) → From rules false service.onrestart s (restarting rules service s)
restarting_from rules service s =
    let told = tell rules service.name (codes "restarting") s in
    calm_from rules service.onrestart s told.state.over told (each (effect rules) service.onrestart) refl
    (tell_by rules Calm (calm_sets rules) service.name (codes "restarting") s) (commands_from rules false service.onrestart)

from_choice : (rules : Rules) (left : List Command) (s : State) (b : Bool) (one other : Change) → From rules false left s one → From rules false left s other
    → From rules false left s (if b then one else other)
from_choice rules left s true one other first second = first
from_choice rules left s false one other first second = second

exited_from : (rules : Rules) (service : ServiceDef) (at : ℕ) (critical : Option Critical) (s : State) → From rules false service.onrestart s (exited_by rules service at critical s)
exited_from rules service at None s = restarting_from rules service s
exited_from rules service at (Some critical) s =
    let exits = counted (is_boot_completed s) s.kernel.clock critical.window.0 (exits_at s at) in
    let t = with_exits s at exits in
    let restarted = restarting_from rules service t in
    from_choice rules service.onrestart s (nat_lt 4 exits.count) (reboot critical.target t) (restarting rules service t)
    (record { follows = tt; running = refl; actions = refl })
    (record { follows = restarted.follows; running = restarted.running; actions = restarted.actions })

follow_from : (rules : Rules) (service : ServiceDef) (at : ℕ) (todo : Move) (s : State) → From rules false service.onrestart s (follow_end rules service at todo s)
unfolding exited
follow_from rules service at move.Nothing s = record { follows = tt; running = refl; actions = refl }
follow_from rules service at move.Spawn s = record { follows = tt; running = refl; actions = refl }
follow_from rules service at (move.Kill pid) s = record { follows = tt; running = refl; actions = refl }
follow_from rules service at move.Stopped s =
    from_calm rules service.onrestart s (tell rules service.name (codes "stopped") s) (tell_by rules Calm (calm_sets rules) service.name (codes "stopped") s)
follow_from rules service at move.Exited s = exited_from rules service at service.critical s

service_from : (rules : Rules) (at : ℕ) (service : Option ServiceDef) (s : State) → From rules false (commands_of service) s (end_service rules at service s)
service_from rules at None s = record { follows = tt; running = refl; actions = refl }
service_from rules at (Some service) s =
    let answer = service_step op.Reaped (marks_at s at) in
    let from = follow_from rules service at answer.todo (with_marks s at answer.marks) in
    record { follows = from.follows; running = from.running; actions = from.actions }

name_from : (rules : Rules) (place : Option ℕ) (s : State) → From rules false (commands_of (service_in rules place)) s (end_named rules place s)
name_from rules None s = record { follows = tt; running = refl; actions = refl }
name_from rules (Some at) s = service_from rules at (service_at rules at) s

reap_restarts : (rules : Rules) (pid : ℕ) (name : List ℕ) (how : How) (s : State) → By (Restarts rules) s (reap rules pid name how s)
unfolding reap
reap_restarts rules pid name how s =
    let from = name_from rules (place_of rules name) s in
    and_then_by rules (Restarts rules) (restarts_sets rules) s (behind (output.Reap (pid_of pid) name how ∷ []) (end_named rules (place_of rules name) s)) (release_child pid)
    (record { follows = λ some left done. (done, from.follows); running = from.running; actions = from.actions })
    (λ t on. of_calm rules t _ _ (released_by rules Calm (calm_sets rules) t (awaits_child t.waits pid)))

pub tick_restarts : (rules : Rules) (ms : ℕ) (s : State) → s.over ≡ None → By (Restarts rules) s (tick rules ms s)
unfolding tick
tick_restarts rules ms s on =
    let now = s.kernel.clock + ms in
    let t : State = record s { kernel = at_time s.kernel now } in
    let gone = each (reap_ended rules) (ending_at s.kernel now) t in
    let each_gone = each_by rules (Restarts rules) (restarts_sets rules) (reap_ended rules)
    (λ p u still. reap_restarts rules p.pid p.name (how_ended p) u) (ending_at s.kernel now) t on in
    either (Restarts rules) s (nat_lt last_time now) (change s (output.TooFar ∷ [])) (move_clock rules now s)
    (λ far. of_calm rules s (output.TooFar ∷ []) s (calm_line s s output.TooFar tt refl refl))
    (λ near. and_then_by rules (Restarts rules) (restarts_sets rules) s (and_then gone (time_out rules)) (restart_due rules)
    (and_then_by rules (Restarts rules) (restarts_sets rules) s gone (time_out rules)
    (record { follows = each_gone.follows; running = each_gone.running; actions = each_gone.actions })
    (λ u still. of_calm rules u _ _ (time_out_by rules Calm (calm_acts rules) u still)))
    (λ u still. of_calm rules u _ _ (restart_due_by rules Calm (calm_acts rules) u still)))

exit_of_restarts : (rules : Rules) (status : ℕ) (p : Option Process) (s : State) → By (Restarts rules) s (exit_of rules status p s)
exit_of_restarts rules status None s = of_calm rules s (output.NoProcess ∷ []) s (calm_line s s output.NoProcess tt refl refl)
exit_of_restarts rules status (Some p) s =
    let t : State = record s { kernel = without s.kernel p.pid } in
    let reaped = reap_restarts rules p.pid p.name (how.Exit status) t in
    record { follows = reaped.follows; running = reaped.running; actions = reaped.actions }

pub exit_restarts : (rules : Rules) (name : List ℕ) (status : ℕ) (s : State) → By (Restarts rules) s (exit rules name status s)
unfolding exit
exit_restarts rules name status s = exit_of_restarts rules status (first_named s.kernel name) s
