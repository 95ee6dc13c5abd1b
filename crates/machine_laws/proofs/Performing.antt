-- Commands keep a relation that their smallest changes keep.
use Rattle.std.proofs.Common.{◌≡◌, ℕ, ◌+◌, Bool, true, false, not, List, [], ◌∷◌, ◌++◌, codes, Option, Some, None, is_some, Result, Ok, Err, if◌then◌else◌, refl}
use Rattle.std.specs.Str.{bytes_eq}
use Rattle.init_base.specs.Name.{is_legal_name}
use Rattle.init_base.specs.declared.units.Millis.{Millis}
use Rattle.init_base.specs.declared.units.Pid.{Pid}
use Rattle.init_machine.specs.Changes.{Change, change, nothing}
use Rattle.init_machine.specs.Effect.{Ran, ran, fails, waits_for, on_service, wait_for_child, exec_start, exec, by_refusal, wait_for_property, wait_for_file, change_tree, export, perform, expand_all, wait_line, ending_line, waiting_by, end_command, ran_by}
use Rattle.init_machine.specs.FileTree.{tree_refusal, tree_after, changed_path, has_node}
use Rattle.init_machine.specs.HasText.{CauseHasText}
use Rattle.init_machine.specs.Kernel.{has_pid, with_process}
use Rattle.init_machine.specs.Matches.{or_empty}
use Rattle.init_machine.specs.Pairs.{pair, with_variable}
use Rattle.init_machine.specs.Services.{Operated, operate, place_of, places_of, is_of_class, marks_at, pid_of, spawn_line, set_by}
use Rattle.init_machine.specs.State.{State, Rules, value_now}
use Rattle.init_machine.specs.Tasks.{task_of}
use Rattle.init_machine.specs.declared.action.Command.{Command}
use Rattle.init_machine.specs.declared.event.Event.TheVariants as event
use Rattle.init_machine.specs.declared.output.Cause.{Cause}
use Rattle.init_machine.specs.declared.output.Cause.TheVariants as cause
use Rattle.init_machine.specs.declared.output.FsRefusal.{FsRefusal}
use Rattle.init_machine.specs.declared.output.Output.{Output}
use Rattle.init_machine.specs.declared.output.Output.TheVariants as output
use Rattle.init_machine.specs.declared.output.SetRefusal.{SetRefusal}
use Rattle.init_machine.specs.declared.service.Op.{Op}
use Rattle.init_machine.specs.declared.service.Op.TheVariants as op
use Rattle.init_machine.specs.declared.task.Done.{Done}
use Rattle.init_machine.specs.declared.task.Done.TheVariants as done
use Rattle.init_machine.specs.declared.task.Task.{Task}
use Rattle.init_machine.specs.declared.task.Task.TheVariants as task
use Rattle.init_machine.specs.declared.task.TreeCall.{TreeCall}
use Rattle.init_machine.specs.declared.waiting.Waiting.{Waiting}
use Rattle.init_machine.specs.declared.waiting.Waiting.TheVariants as waiting
use Rattle.machine_laws.proofs.Asked.{AsksAllowed, task_allowed}
use Rattle.machine_laws.proofs.Failures.{AnswerHasText, CallHasText, ResultHasText, tree_has_text, expansion_has_text}
use Rattle.machine_laws.proofs.Relation.{By, IsPlain}
use Rattle.machine_laws.proofs.Serving.{Acts, operate_by, operate_each_by, set_by_by}

-- a command that fails does so for a cause that has a text
abbrev pub EndsWell : Done → Type 0
EndsWell done.Ok = Unit {0}
EndsWell (done.Failed why) = CauseHasText why
EndsWell (done.Wait what) = Unit {0}

pub record ByRan (R : State → List Output → State → Type 0) (s : State) (r : Ran) : Type 0 where
  pub did : By R s r.did
  pub ends : EndsWell r.ending

ran_choice : (R : State → List Output → State → Type 0) (s : State) (b : Bool) (one other : Ran)
    → (b ≡ true → ByRan R s one) → (b ≡ false → ByRan R s other) → ByRan R s (if b then one else other)
ran_choice R s true one other left right = left refl
ran_choice R s false one other left right = right refl

pid_ends : (b : Bool) (ending : Done) → EndsWell ending → EndsWell (if b then ending else done.Failed cause.NoPid)
pid_ends true ending well = well
pid_ends false ending well = tt

wait_is_plain : (what : Waiting) → IsPlain (wait_line what)
wait_is_plain (waiting.Child pid) = tt
wait_is_plain (waiting.Prop awaited) = tt
wait_is_plain (waiting.File path until) = tt

ending_is_plain : (ending : Done) → EndsWell ending → IsPlain (ending_line ending)
ending_is_plain done.Ok well = tt
ending_is_plain (done.Failed why) well = well
ending_is_plain (done.Wait what) well = wait_is_plain what

module _ (rules : Rules) (R : State → List Output → State → Type 0) (acts : Acts rules R) where
  fails_by : (why : Cause) (s : State) → CauseHasText why → ByRan R s (fails why s)
  fails_by why s text = record { did = acts.sets.none s; ends = text }

  on_service_by : (what : Op) (name : List ℕ) (place : Option ℕ) (s : State) → AsksAllowed (task.OnService what name) → s.over ≡ None
      → ByRan R s (on_service rules what name place s)
  on_service_by what name None s asked on = fails_by (cause.NoSuchService name) s tt
  on_service_by what name (Some at) s asked on =
      record { did = operate_by rules R acts at what s asked on; ends = pid_ends (operate rules at what s).had_pid done.Ok tt }

  child_by : (s : State) (process : Option Pid) (o : Operated) → By R s o.done → ByRan R s (wait_for_child process o)
  child_by s None o did = record { did = did; ends = tt }
  child_by s (Some pid) o did = record { did = did; ends = pid_ends o.had_pid (done.Wait (waiting.Child pid)) tt }

  exec_start_by : (name : List ℕ) (place : Option ℕ) (s : State) → s.over ≡ None → ByRan R s (exec_start rules name place s)
  exec_start_by name None s on = fails_by (cause.NoSuchService name) s tt
  exec_start_by name (Some at) s on =
      let o = operate rules at op.ExecStart s in
      ran_choice R s (is_some (marks_at s at).pid) (fails (cause.AlreadyRunning name) s) (wait_for_child (marks_at o.done.state at).pid o)
      (λ runs. fails_by (cause.AlreadyRunning name) s tt)
      (λ alone. child_by s (marks_at o.done.state at).pid o (operate_by rules R acts at op.ExecStart s tt on))

  exec_by : (path : List ℕ) (s : State) → s.over ≡ None → ByRan R s (exec rules path s)
  exec_by path s on =
      ran_choice R s (has_pid s.kernel)
      (ran (done.Wait (waiting.Child (pid_of s.kernel.next_pid)))
      (change (record s { kernel = with_process rules.plans s.kernel (codes "*exec") path }) (spawn_line s.kernel (codes "*exec") path ∷ [])))
      (ran (done.Failed cause.NoPid) (change s (output.NoPid (codes "*exec") ∷ [])))
      (λ pid. record { did = acts.program s path on pid; ends = tt })
      (λ none. record { did = acts.sets.line s (output.NoPid (codes "*exec")) tt; ends = tt })

  refusal_by : (s : State) (refused : Option SetRefusal) (c : Change) → AnswerHasText refused → By R s c → ByRan R s (by_refusal refused c)
  refusal_by s None c text did = record { did = did; ends = tt }
  refusal_by s (Some why) c text did = record { did = did; ends = text }

  property_by : (name value : List ℕ) (s : State) → ByRan R s (wait_for_property name value s)
  property_by name value s =
      ran_choice R s (not (is_legal_name name)) (fails (cause.BadArgument 1) s)
      (if bytes_eq (or_empty (value_now s name)) value then ran done.Ok (nothing s) else waits_for (waiting.Prop (pair name value)) s)
      (λ bad. fails_by (cause.BadArgument 1) s tt)
      (λ good. ran_choice R s (bytes_eq (or_empty (value_now s name)) value) (ran done.Ok (nothing s)) (waits_for (waiting.Prop (pair name value)) s)
      (λ there. record { did = acts.sets.none s; ends = tt }) (λ absent. record { did = acts.sets.none s; ends = tt }))

  file_by : (path : List ℕ) (within : Millis) (s : State) → ByRan R s (wait_for_file path within s)
  file_by path within s =
      ran_choice R s (has_node s.tree path) (ran done.Ok (nothing s)) (waits_for (waiting.File path (record { 0 = s.kernel.clock + within.0 })) s)
      (λ there. record { did = acts.sets.none s; ends = tt }) (λ absent. record { did = acts.sets.none s; ends = tt })

  -- a change beside properties, services and processes, and its line
  pub aside_line_by : (s t : State) (o : Output) → IsPlain o → R s [] t → R s (o ∷ []) t
  aside_line_by s t o plain did = acts.sets.joined s t t [] (o ∷ []) did (acts.sets.line t o plain)

  tree_by : (asked : TreeCall) (refused : Option FsRefusal) (s : State) → CallHasText refused → ByRan R s (change_tree asked refused s)
  tree_by asked None s text =
      let t : State = record s { tree = tree_after s.tree asked } in
      record {
        did = aside_line_by s t (output.Tree (changed_path asked)) tt
            (acts.sets.aside s t (record { props = refl; saved = refl; saving = refl; marks = refl; kernel = refl; running = refl; over = refl }));
        ends = tt;
      }
  tree_by asked (Some why) s text = fails_by (cause.Tree why) s text

  export_by : (name value : List ℕ) (s : State) → By R s (export name value s)
  export_by name value s =
      let t : State = record s { environment = with_variable s.environment name value } in
      aside_line_by s t (output.Env name value) tt
      (acts.sets.aside s t (record { props = refl; saved = refl; saving = refl; marks = refl; kernel = refl; running = refl; over = refl }))

  -- what a task does
  pub perform_by : (asked : Task) (s : State) → AsksAllowed asked → s.over ≡ None → ByRan R s (perform rules asked s)
  unfolding perform
  perform_by (task.OnClass what class) s asked on =
      record { did = operate_each_by rules R acts what (places_of rules (is_of_class class)) s asked on; ends = tt }
  perform_by (task.OnService what name) s asked on = on_service_by what name (place_of rules name) s asked on
  perform_by (task.ExecStart name) s asked on = exec_start_by name (place_of rules name) s on
  perform_by (task.Exec path) s asked on = exec_by path s on
  perform_by (task.SetProperty name value) s asked on =
      let by = set_by_by rules R acts None name value s in
      refusal_by s (set_by rules None name value s).refused (set_by rules None name value s).done by.text by.did
  perform_by (task.Trigger name) s asked on =
      record {
        did = acts.sets.aside s (record s { events = s.events ++ event.Named name ∷ [] })
            (record { props = refl; saved = refl; saving = refl; marks = refl; kernel = refl; running = refl; over = refl });
        ends = tt;
      }
  perform_by (task.WaitForProperty name value) s asked on = property_by name value s
  perform_by (task.WaitForFile path within) s asked on = file_by path within s
  perform_by task.LoadSaved s asked on = record { did = acts.loaded s on; ends = tt }
  perform_by (task.Export name value) s asked on = record { did = export_by name value s; ends = tt }
  perform_by (task.Tree asked) s allowed on = tree_by asked (tree_refusal s.tree asked) s (tree_has_text s.tree asked)
  perform_by task.Note s asked on = record { did = acts.sets.line s output.Noted tt; ends = tt }
  perform_by (task.BadArgument number) s asked on = fails_by (cause.BadArgument number) s tt

  ran_by_by : (c : Command) (args : Result (List (List ℕ)) Cause) (s : State) → ResultHasText args → s.over ≡ None → ByRan R s (ran_by rules c args s)
  ran_by_by c (Err why) s text on = fails_by why s text
  ran_by_by c (Ok args) s text on = perform_by (task_of c.word args) s (task_allowed c.word args) on

  end_command_by : (s : State) (r : Ran) → ByRan R s r → By R s (end_command r)
  end_command_by s r by =
      let was = r.did.state in
      let t : State = record was { waits = waiting_by r.ending was.waits } in
      acts.sets.joined s was t r.did.lines (ending_line r.ending ∷ []) by.did
      (aside_line_by was t (ending_line r.ending) (ending_is_plain r.ending by.ends)
      (acts.sets.aside was t (record { props = refl; saved = refl; saving = refl; marks = refl; kernel = refl; running = refl; over = refl })))

  -- what a command does behind its line
  pub command_ends_by : (c : Command) (s : State) → s.over ≡ None → By R s (end_command (ran_by rules c (expand_all (value_now s) c.args) s))
  command_ends_by c s on =
      let args = expand_all (value_now s) c.args in
      end_command_by s (ran_by rules c args s) (ran_by_by c args s (expansion_has_text (value_now s) c.args) on)
