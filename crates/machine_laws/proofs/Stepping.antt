-- A step, and a legal history, keep a relation that the machine's smallest changes keep.
use Rattle.std.proofs.Common.{◌≡◌, ℕ, ◌+◌, Bool, true, false, nat_lt, nat_le, List, [], ◌∷◌, Option, Some, None, refl, sym, subst}
use Rattle.init_machine.specs.Changes.{Change, change, and_then, each}
use Rattle.init_machine.specs.Effect.{effect}
use Rattle.init_machine.specs.FileTree.{tree_refusal, tree_after, has_node}
use Rattle.init_machine.specs.History.{after_from, LegalFrom, inputs_of}
use Rattle.init_machine.specs.Kernel.{Process, last_time, first_named, without, how_ended, ending_at, at_time}
use Rattle.init_machine.specs.Matches.{matches}
use Rattle.init_machine.specs.Pairs.{last_pairs}
use Rattle.init_machine.specs.Policy.{PolicyLines}
use Rattle.init_machine.specs.Reaping.{reap}
use Rattle.init_machine.specs.Services.{set_by}
use Rattle.init_machine.specs.Setting.{is_control}
use Rattle.init_machine.specs.State.{State, Rules, rules_of, value_now}
use Rattle.init_machine.specs.Step.{unless_down, set_pair, set_pairs, queue_boot, first_boot, boot, left_of, run_first, with_taken, take_and_run, unless_waiting, next, reap_ended, places_now, has_timed_out, is_due, time_out, restart_due, move_clock, tick, exit_of, exit, file_by, file, domain_of, answer_line, ask, settle_by, settle_wait, settle, respond, step}
use Rattle.init_machine.specs.Taking.{taken_now}
use Rattle.init_machine.specs.declared.action.Action.{Action}
use Rattle.init_machine.specs.declared.action.Command.{Command}
use Rattle.init_machine.specs.declared.config.Config.{Config}
use Rattle.init_machine.specs.declared.config.Pair.{Pair}
use Rattle.init_machine.specs.declared.input.Input.{Input}
use Rattle.init_machine.specs.declared.input.Input.TheVariants as input
use Rattle.init_machine.specs.declared.output.Cause.TheVariants as cause
use Rattle.init_machine.specs.declared.output.FsRefusal.{FsRefusal}
use Rattle.init_machine.specs.declared.output.How.TheVariants as how
use Rattle.init_machine.specs.declared.output.Output.{Output}
use Rattle.init_machine.specs.declared.output.Output.TheVariants as output
use Rattle.init_machine.specs.declared.output.SetRefusal.{SetRefusal}
use Rattle.init_machine.specs.declared.report.Entry.{Entry}
use Rattle.init_machine.specs.declared.service.Op.TheVariants as op
use Rattle.init_machine.specs.declared.task.TreeCall.TheVariants as call
use Rattle.init_machine.specs.declared.waiting.Waiting.{Waiting}
use Rattle.init_machine.specs.declared.waiting.Waiting.TheVariants as waiting
use Rattle.machine_laws.specs.Rebooting.{outputs_of}
use Rattle.machine_laws.proofs.Failures.{AnswerHasText, CallHasText, tree_has_text}
use Rattle.machine_laws.proofs.Performing.{aside_line_by}
use Rattle.machine_laws.proofs.Reaping.{Runs, Reaps, effect_by, reap_by}
use Rattle.machine_laws.proofs.Relation.{By, Sets, IsPlain, IsScheduled, either, behind_by, ended_by, and_then_by, each_by}
use Rattle.machine_laws.proofs.Serving.{Acts, operate_each_by, set_by_by}
use Rattle.machine_laws.proofs.Setting.{told_by}
use Rattle.machine_laws.proofs.Taking.{IsTaking, taken_by}

-- what a relation needs for the clock
pub record Clocks (rules : Rules) (R : State → List Output → State → Type 0) : Type 0 where
  pub reaps : Reaps rules R
  pub moved : (s : State) (now : ℕ) → s.over ≡ None → R s [] (record s { kernel = at_time s.kernel now })
  pub left : (s : State) (pid : ℕ) → s.over ≡ None → R s [] (record s { kernel = without s.kernel pid })

-- what a relation needs for a step
pub record Steps (rules : Rules) (R : State → List Output → State → Type 0) : Type 0 where
  pub runs : Runs rules R
  pub taking : (s : State) (o : Output) → IsTaking o → R s (o ∷ []) s
  pub scheduled : (s t : State) → IsScheduled s t → R s [] t
  pub clock : (s : State) (ms : ℕ) → s.over ≡ None → By R s (tick rules ms s)
  pub exits : (s : State) (name : List ℕ) (status : ℕ) → s.over ≡ None → By R s (exit rules name status s)

module _ (rules : Rules) (R : State → List Output → State → Type 0) (acts : Acts rules R) where
  -- services are timed out
  pub time_out_by : (s : State) → s.over ≡ None → By R s (time_out rules s)
  time_out_by s on = operate_each_by rules R acts op.Timeout (places_now rules (has_timed_out s.kernel.clock) s) s tt on

  -- services that are due are started
  pub restart_due_by : (s : State) → s.over ≡ None → By R s (restart_due rules s)
  restart_due_by s on = operate_each_by rules R acts op.Start (places_now rules (is_due s.kernel.clock) s) s tt on

module _ (rules : Rules) (R : State → List Output → State → Type 0) (clocks : Clocks rules R) where
  move_by : (now : ℕ) (s : State) → s.over ≡ None → By R s (move_clock rules now s)
  move_by now s on =
      let sets = clocks.reaps.runs.acts.sets in
      let t : State = record s { kernel = at_time s.kernel now } in
      let gone = each (reap_ended rules) (ending_at s.kernel now) t in
      and_then_by rules R sets s (and_then gone (time_out rules)) (restart_due rules)
      (and_then_by rules R sets s gone (time_out rules)
      (sets.joined s t gone.state [] gone.lines (clocks.moved s now on)
      (each_by rules R sets (reap_ended rules) (λ p u still. reap_by rules R clocks.reaps p.pid p.name (how_ended p) u still) (ending_at s.kernel now) t on))
      (time_out_by rules R clocks.reaps.runs.acts))
      (restart_due_by rules R clocks.reaps.runs.acts)

  pub tick_by : (s : State) (ms : ℕ) → s.over ≡ None → By R s (tick rules ms s)
  unfolding tick
  tick_by s ms on =
      either R s (nat_lt last_time (s.kernel.clock + ms)) (change s (output.TooFar ∷ [])) (move_clock rules (s.kernel.clock + ms) s)
      (λ far. clocks.reaps.runs.acts.sets.line s output.TooFar tt) (λ near. move_by (s.kernel.clock + ms) s on)

  exit_of_by : (status : ℕ) (p : Option Process) (s : State) → s.over ≡ None → By R s (exit_of rules status p s)
  exit_of_by status None s on = clocks.reaps.runs.acts.sets.line s output.NoProcess tt
  exit_of_by status (Some p) s on =
      let t : State = record s { kernel = without s.kernel p.pid } in
      let did = reap rules p.pid p.name (how.Exit status) t in
      clocks.reaps.runs.acts.sets.joined s t did.state [] did.lines (clocks.left s p.pid on) (reap_by rules R clocks.reaps p.pid p.name (how.Exit status) t on)

  pub exit_by : (s : State) (name : List ℕ) (status : ℕ) → s.over ≡ None → By R s (exit rules name status s)
  unfolding exit
  exit_by s name status on = exit_of_by status (first_named s.kernel name) s on

module _ (rules : Rules) (R : State → List Output → State → Type 0) (acts : Acts rules R) where
  pub down_by : (over : Option (List ℕ)) (s : State) (rule : State → Change) → s.over ≡ over → (s.over ≡ None → By R s (rule s)) → By R s (unless_down over s rule)
  down_by None s rule is did = did is
  down_by (Some target) s rule is did = acts.sets.line s output.Down tt

  pairs_by : (pairs : List Pair) (s : State) → By R s (set_pairs rules pairs s)
  pairs_by [] s = acts.sets.none s
  pairs_by (p ∷ rest) s =
      let first = set_pair rules p s in
      behind_by rules R acts.sets s first.state first.lines (set_pairs rules rest first.state)
      (told_by rules R acts.sets s p.name (set_by rules None p.name p.value s) (set_by_by rules R acts None p.name p.value s))
      (pairs_by rest first.state)

  first_boot_by : (pairs : List Pair) (s : State) → By R s (first_boot pairs rules s)
  first_boot_by pairs s =
      let set = set_pairs rules (last_pairs pairs) s in
      ended_by rules R acts.sets s set.state (queue_boot set.state) set.lines (pairs_by (last_pairs pairs) s)
      (acts.sets.aside set.state (queue_boot set.state) (record { props = refl; saved = refl; saving = refl; marks = refl; kernel = refl; running = refl; over = refl }))

  pub boot_by : (pairs : List Pair) (s : State) → By R s (boot pairs rules s)
  unfolding boot
  boot_by pairs s =
      either R s s.had_boot (change s (output.Idle ∷ [])) (first_boot pairs rules s)
      (λ again. acts.sets.line s output.Idle tt) (λ first. first_boot_by pairs s)

  file_by_by : (refused : Option FsRefusal) (path content : List ℕ) (s : State) → CallHasText refused → By R s (file_by refused path content s)
  file_by_by None path content s text =
      let t : State = record s { tree = tree_after s.tree (call.Write path content) } in
      aside_line_by rules R acts s t (output.Tree path) tt
      (acts.sets.aside s t (record { props = refl; saved = refl; saving = refl; marks = refl; kernel = refl; running = refl; over = refl }))
  file_by_by (Some why) path content s text = acts.sets.line s (output.Failed (cause.Tree why)) text

  pub file_rule_by : (path content : List ℕ) (s : State) → By R s (file path content s)
  unfolding file
  file_rule_by path content s = file_by_by (tree_refusal s.tree (call.Write path content)) path content s (tree_has_text s.tree (call.Write path content))

  answer_is_plain : (refused : Option SetRefusal) (control : Bool) (count : ℕ) → AnswerHasText refused → IsPlain (answer_line refused control count)
  answer_is_plain (Some why) control count text = text
  answer_is_plain None true count text = tt
  answer_is_plain None false count text = tt

  pub ask_by : (domain name value : List ℕ) (s : State) → By R s (ask rules domain name value s)
  unfolding ask
  ask_by domain name value s =
      let answer = set_by rules (Some domain) name value s in
      let by = set_by_by rules R acts (Some domain) name value s in
      let t = answer.done.state in
      let o = answer_line answer.refused (is_control name) t.props.count in
      acts.sets.joined s t t answer.done.lines (o ∷ []) by.did
      (acts.sets.line t o (answer_is_plain answer.refused (is_control name) t.props.count by.text))

  settled_by : (there late : Bool) (s : State) → By R s (settle_by there late s)
  settled_by true late s =
      aside_line_by rules R acts s (record s { waits = None }) output.Released tt
      (acts.sets.aside s (record s { waits = None }) (record { props = refl; saved = refl; saving = refl; marks = refl; kernel = refl; running = refl; over = refl }))
  settled_by false true s =
      aside_line_by rules R acts s (record s { waits = None }) output.Timeout tt
      (acts.sets.aside s (record s { waits = None }) (record { props = refl; saved = refl; saving = refl; marks = refl; kernel = refl; running = refl; over = refl }))
  settled_by false false s = acts.sets.none s

  settle_wait_by : (waits : Option Waiting) (s : State) → By R s (settle_wait waits s)
  settle_wait_by None s = acts.sets.none s
  settle_wait_by (Some (waiting.Child pid)) s = acts.sets.none s
  settle_wait_by (Some (waiting.Prop awaited)) s = acts.sets.none s
  settle_wait_by (Some (waiting.File path until)) s = settled_by (has_node s.tree path) (nat_le until.0 s.kernel.clock) s

  pub settle_by_by : (s : State) → By R s (settle s)
  unfolding settle
  settle_by_by s = settle_wait_by s.waits s

module _ (rules : Rules) (R : State → List Output → State → Type 0) (steps : Steps rules R) where
  run_first_by : (running : List (List Command)) (s : State) → s.over ≡ None → By R s (run_first rules running s)
  run_first_by [] s on = steps.runs.acts.sets.line s output.Idle tt
  run_first_by ([] ∷ rest) s on =
      steps.scheduled s (record s { running = rest }) (record { props = refl; saved = refl; saving = refl; marks = refl; kernel = refl; over = refl })
  run_first_by ((c ∷ commands) ∷ rest) s on =
      let t : State = record s { running = left_of commands rest } in
      let did = effect rules c t in
      steps.runs.acts.sets.joined s t did.state [] did.lines
      (steps.scheduled s t (record { props = refl; saved = refl; saving = refl; marks = refl; kernel = refl; over = refl }))
      (effect_by rules R steps.runs c t on)

  take_by : (actions : List Action) (s : State) → s.over ≡ None → By R s (take_and_run actions rules s)
  take_by actions s on =
      let taken = taken_now (matches (value_now s)) actions s.running s.events in
      let t = with_taken s taken in
      behind_by rules R steps.runs.acts.sets s t taken.lines (run_first rules taken.running t)
      (ended_by rules R steps.runs.acts.sets s s t taken.lines
      (taken_by rules R steps.runs.acts.sets steps.taking s (matches (value_now s)) actions s.running s.events)
      (steps.scheduled s t (record { props = refl; saved = refl; saving = refl; marks = refl; kernel = refl; over = refl })))
      (run_first_by taken.running t on)

  waiting_by : (waits : Option Waiting) (s : State) (rule : State → Change) → By R s (rule s) → By R s (unless_waiting waits s rule)
  waiting_by None s rule did = did
  waiting_by (Some what) s rule did = steps.runs.acts.sets.line s output.Blocked tt

  next_by : (actions : List Action) (s : State) → s.over ≡ None → By R s (next actions rules s)
  unfolding next
  next_by actions s on = waiting_by s.waits s (take_and_run actions rules) (take_by actions s on)

-- a step keeps the relation
pub step_by : (config : Config) (policy : PolicyLines) (R : State → List Output → State → Type 0) → Steps (rules_of config policy) R
    → (s : State) (i : Input) → By R s (step config policy s i)
unfolding step respond
step_by config policy R steps s input.Boot =
    let rules = rules_of config policy in
    and_then_by rules R steps.runs.acts.sets s (boot config.pairs rules s) settle (boot_by rules R steps.runs.acts config.pairs s) (λ t on. settle_by_by rules R steps.runs.acts t)
step_by config policy R steps s input.Next =
    let rules = rules_of config policy in
    and_then_by rules R steps.runs.acts.sets s (unless_down s.over s (next config.actions rules)) settle
    (down_by rules R steps.runs.acts s.over s (next config.actions rules) refl (next_by rules R steps config.actions s)) (λ t on. settle_by_by rules R steps.runs.acts t)
step_by config policy R steps s (input.Tick ms) =
    let rules = rules_of config policy in
    and_then_by rules R steps.runs.acts.sets s (unless_down s.over s (tick rules ms)) settle
    (down_by rules R steps.runs.acts s.over s (tick rules ms) refl (steps.clock s ms)) (λ t on. settle_by_by rules R steps.runs.acts t)
step_by config policy R steps s (input.Exit name status) =
    let rules = rules_of config policy in
    and_then_by rules R steps.runs.acts.sets s (unless_down s.over s (exit rules name status)) settle
    (down_by rules R steps.runs.acts s.over s (exit rules name status) refl (steps.exits s name status)) (λ t on. settle_by_by rules R steps.runs.acts t)
step_by config policy R steps s (input.File path content) =
    let rules = rules_of config policy in
    and_then_by rules R steps.runs.acts.sets s (unless_down s.over s (file path content)) settle
    (down_by rules R steps.runs.acts s.over s (file path content) refl (λ on. file_rule_by rules R steps.runs.acts path content s)) (λ t on. settle_by_by rules R steps.runs.acts t)
step_by config policy R steps s (input.Set who name value) =
    let rules = rules_of config policy in
    and_then_by rules R steps.runs.acts.sets s (ask rules (domain_of config.domains who) name value s) settle
    (ask_by rules R steps.runs.acts (domain_of config.domains who) name value s) (λ t on. settle_by_by rules R steps.runs.acts t)

-- and so does a legal history
pub history_by : (config : Config) (policy : PolicyLines) (R : State → List Output → State → Type 0) → Sets (rules_of config policy) R
    → ((s : State) (i : Input) → By R s (step config policy s i)) → (s : State) (history : List Entry) → LegalFrom config policy s history
    → R s (outputs_of history) (after_from config policy s (inputs_of history))
history_by config policy R sets each_step s [] legal = sets.none s
history_by config policy R sets each_step s (e ∷ history) legal =
    let t = (step config policy s e.input).state in
    sets.joined s t (after_from config policy t (inputs_of history)) e.outputs (outputs_of history)
    (subst (λ lines. R s lines t) (sym legal.0) (each_step s e.input)) (history_by config policy R sets each_step t history legal.1)
