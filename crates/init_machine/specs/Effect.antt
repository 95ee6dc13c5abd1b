-- What a command does (AOSP, init's README, "Commands"; the causes, and that `setprop ctl.start NAME` does what a client's set
-- does, are this project's profile).
use Rattle.std.specs.Prelude.{ℕ, ◌+◌, true, not, List, [], ◌∷◌, ◌++◌, codes, Option, Some, None, is_some, Result, Ok, Err, if◌then◌else◌}
use Rattle.std.specs.Str.{bytes_eq}
use Rattle.init_base.specs.Name.{is_legal_name}
use Rattle.init_base.specs.declared.units.Millis.{Millis}
use Rattle.init_base.specs.declared.units.Pid.{Pid}
use Rattle.init_machine.specs.Changes.{Change, change, behind, nothing, and_then, each}
use Rattle.init_machine.specs.Expand.{expand}
use Rattle.init_machine.specs.FileTree.{tree_refusal, tree_after, changed_path, has_node}
use Rattle.init_machine.specs.Kernel.{has_pid, with_process}
use Rattle.init_machine.specs.Matches.{or_empty}
use Rattle.init_machine.specs.Pairs.{pair, with_variable, without_name}
use Rattle.init_machine.specs.Services.{Operated, operate, operate_each, place_of, places_of, is_of_class, marks_at, pid_of, spawn_line, set_by}
use Rattle.init_machine.specs.Setting.{Judged, set_property, unset_lines}
use Rattle.init_machine.specs.State.{State, Rules, value_now}
use Rattle.init_machine.specs.Tasks.{task_of}
use Rattle.init_machine.specs.declared.action.Command.{Command}
use Rattle.init_machine.specs.declared.config.Pair.{Pair}
use Rattle.init_machine.specs.declared.event.Event.TheVariants as event
use Rattle.init_machine.specs.declared.output.Cause.{Cause}
use Rattle.init_machine.specs.declared.output.Cause.TheVariants as cause
use Rattle.init_machine.specs.declared.output.FsRefusal.{FsRefusal}
use Rattle.init_machine.specs.declared.output.Output.{Output}
use Rattle.init_machine.specs.declared.output.Output.TheVariants as output
use Rattle.init_machine.specs.declared.output.SetRefusal.{SetRefusal}
use Rattle.init_machine.specs.declared.waiting.Waiting.{Waiting}
use Rattle.init_machine.specs.declared.waiting.Waiting.TheVariants as waiting
use Rattle.init_machine.specs.declared.service.Op.{Op}
use Rattle.init_machine.specs.declared.service.Op.TheVariants as op
use Rattle.init_machine.specs.declared.task.Done.{Done}
use Rattle.init_machine.specs.declared.task.Done.TheVariants as done
use Rattle.init_machine.specs.declared.task.Task.{Task}
use Rattle.init_machine.specs.declared.task.Task.TheVariants as task
use Rattle.init_machine.specs.declared.task.TreeCall.{TreeCall}

-- what a task did, and how it ended
pub record Ran : Type 0 where
  pub did : Change
  pub ending : Done

abbrev pub ran : Done → Change → Ran
ran ending c = record { did = c; ending = ending }

abbrev pub fails : Cause → State → Ran
fails why s = ran (done.Failed why) (nothing s)

abbrev pub waits_for : Waiting → State → Ran
waits_for what s = ran (done.Wait what) (nothing s)

-- A command on a service: there has to be one of this name, and where its process was to be spawned, the kernel has to
-- have had a pid.

abbrev pub by_pid : Operated → Ran
by_pid o = ran (if o.had_pid then done.Ok else done.Failed cause.NoPid) o.done

abbrev pub on_service : Rules → Op → List ℕ → Option ℕ → State → Ran
on_service rules what name None s = fails (cause.NoSuchService name) s
on_service rules what name (Some at) s = by_pid (operate rules at what s)

-- a service is started once and waited for, unless it runs already (one that was just spawned has a process)
abbrev pub wait_for_child : Option Pid → Operated → Ran
wait_for_child None o = ran (done.Failed cause.NoPid) o.done
wait_for_child (Some pid) o = ran (if o.had_pid then done.Wait (waiting.Child pid) else done.Failed cause.NoPid) o.done

abbrev pub exec_start_at : Rules → List ℕ → ℕ → State → Ran
exec_start_at rules name at s =
    if is_some (marks_at s at).pid then fails (cause.AlreadyRunning name) s
    else (let o = operate rules at op.ExecStart s in wait_for_child (marks_at o.done.state at).pid o)

abbrev pub exec_start : Rules → List ℕ → Option ℕ → State → Ran
exec_start rules name None s = fails (cause.NoSuchService name) s
exec_start rules name (Some at) s = exec_start_at rules name at s

-- a program is run once and waited for; its process has the name `*exec`
abbrev pub exec : Rules → List ℕ → State → Ran
exec rules path s =
    if has_pid s.kernel
    then ran (done.Wait (waiting.Child (pid_of s.kernel.next_pid)))
    (change (record s { kernel = with_process rules.plans s.kernel (codes "*exec") path }) (spawn_line s.kernel (codes "*exec") path ∷ []))
    else ran (done.Failed cause.NoPid) (change s (output.NoPid (codes "*exec") ∷ []))

-- a set fails where it is refused
abbrev pub by_refusal : Option SetRefusal → Change → Ran
by_refusal None c = ran done.Ok c
by_refusal (Some why) c = ran (done.Failed (cause.Set why)) c

abbrev pub by_answer : Judged → Ran
by_answer answer = by_refusal answer.refused answer.done

-- a wait for a property is over at once where the property has the value, an absent one counting as empty
abbrev pub wait_for_property : List ℕ → List ℕ → State → Ran
wait_for_property name value s =
    if not (is_legal_name name) then fails (cause.BadArgument 1) s
    else if bytes_eq (or_empty (value_now s name)) value then ran done.Ok (nothing s)
    else waits_for (waiting.Prop (pair name value)) s

-- a wait for a file is over at once where the path is in the tree
abbrev pub wait_for_file : List ℕ → Millis → State → Ran
wait_for_file path within s =
    if has_node s.tree path then ran done.Ok (nothing s)
    else waits_for (waiting.File path (record { 0 = s.kernel.clock + within.0 })) s

-- a saved property is set by init; where the set is refused, its pair is taken out of the saved ones
abbrev pub keep_saved : Option SetRefusal → List ℕ → List Pair → List Pair
keep_saved None name saved = saved
keep_saved (Some why) name saved = without_name saved name

abbrev pub set_saved : Rules → Pair → State → Change
set_saved rules saved s =
    let answer = set_property rules s None saved.name saved.value in
    let now = answer.done.state in
    change (record now { saved = keep_saved answer.refused saved.name now.saved })
    (answer.done.lines ++ unset_lines saved.name answer.refused)

-- from then on sets of persistent properties are saved
abbrev pub save_from_now : State → Change
save_from_now s = nothing (record s { saving = true })

abbrev pub load_saved : Rules → State → Change
load_saved rules s = if s.saving then nothing s else and_then (each (set_saved rules) s.saved s) save_from_now

abbrev pub change_tree : TreeCall → Option FsRefusal → State → Ran
change_tree asked None s = ran done.Ok (change (record s { tree = tree_after s.tree asked }) (output.Tree (changed_path asked) ∷ []))
change_tree asked (Some why) s = fails (cause.Tree why) s

abbrev pub export : List ℕ → List ℕ → State → Change
export name value s = change (record s { environment = with_variable s.environment name value }) (output.Env name value ∷ [])

-- what a task does
unfoldable pub perform : Rules → Task → State → Ran
perform rules (task.OnClass what class) s = ran done.Ok (operate_each rules what (places_of rules (is_of_class class)) s)
perform rules (task.OnService what name) s = on_service rules what name (place_of rules name) s
perform rules (task.ExecStart name) s = exec_start rules name (place_of rules name) s
perform rules (task.Exec path) s = exec rules path s
perform rules (task.SetProperty name value) s = by_answer (set_by rules None name value s)
perform rules (task.Trigger name) s = ran done.Ok (nothing (record s { events = s.events ++ event.Named name ∷ [] }))
perform rules (task.WaitForProperty name value) s = wait_for_property name value s
perform rules (task.WaitForFile path within) s = wait_for_file path within s
perform rules task.LoadSaved s = ran done.Ok (load_saved rules s)
perform rules (task.Export name value) s = ran done.Ok (export name value s)
perform rules (task.Tree asked) s = change_tree asked (tree_refusal s.tree asked) s
perform rules task.Note s = ran done.Ok (change s (output.Noted ∷ []))
perform rules (task.BadArgument number) s = fails (cause.BadArgument number) s

-- All arguments are expanded first, from the left; the first that fails decides.

abbrev pub onto : Result (List ℕ) Cause → Result (List (List ℕ)) Cause → Result (List (List ℕ)) Cause
onto (Err why) rest = Err why
onto (Ok arg) (Err why) = Err why
onto (Ok arg) (Ok args) = Ok (arg ∷ args)

abbrev pub expand_all : (List ℕ → Option (List ℕ)) → List (List ℕ) → Result (List (List ℕ)) Cause
expand_all look_up [] = Ok []
expand_all look_up (arg ∷ args) = onto (expand look_up arg) (expand_all look_up args)

-- the line of a command has the expanded arguments, or those written where expansion failed
abbrev pub command_line : Command → List (List ℕ) → Output
command_line c args = output.Command c.file c.line c.word args

abbrev pub wait_line : Waiting → Output
wait_line (waiting.Child pid) = output.WaitChild pid
wait_line (waiting.Prop awaited) = output.WaitProp awaited.name awaited.value
wait_line (waiting.File path until) = output.WaitFile path until

abbrev pub ending_line : Done → Output
ending_line done.Ok = output.Ok
ending_line (done.Failed why) = output.Failed why
ending_line (done.Wait what) = wait_line what

abbrev pub waiting_by : Done → Option Waiting → Option Waiting
waiting_by done.Ok waits = waits
waiting_by (done.Failed why) waits = waits
waiting_by (done.Wait what) waits = Some what

-- the line behind what a command did, and what it waits for
abbrev pub end_command : Ran → Change
end_command r =
    let s = r.did.state in change (record s { waits = waiting_by r.ending s.waits }) (r.did.lines ++ ending_line r.ending ∷ [])

abbrev pub args_shown : Command → Result (List (List ℕ)) Cause → List (List ℕ)
args_shown c (Err why) = c.args
args_shown c (Ok args) = args

-- what a command does by its expanded arguments, or why it fails
abbrev pub ran_by : Rules → Command → Result (List (List ℕ)) Cause → State → Ran
ran_by rules c (Err why) s = fails why s
ran_by rules c (Ok args) s = perform rules (task_of c.word args) s

abbrev pub effect_by : Rules → Command → Result (List (List ℕ)) Cause → State → Change
effect_by rules c args s = behind (command_line c (args_shown c args) ∷ []) (end_command (ran_by rules c args s))

-- a command: its line, what it does, and how it ended (those of an `onrestart` run also while another one waits)
unfoldable pub effect : Rules → Command → State → Change
effect rules c s = effect_by rules c (expand_all (value_now s) c.args) s
