-- The next command, from what its parts do.
use Rattle.std.proofs.Common.{◌≡◌, ℕ, true, false, ◌||◌, List, [], ◌∷◌, ◌++◌, Option, Some, None, MatchOption, refl, sym, ap, subst}
use Rattle.std.specs.Option.{is_some}
use Rattle.init_machine.specs.Changes.{Change, change, behind}
use Rattle.init_machine.specs.Effect.{effect}
use Rattle.init_machine.specs.Matches.{matches}
use Rattle.init_machine.specs.Props.{Props, value_in}
use Rattle.init_machine.specs.State.{State}
use Rattle.init_machine.specs.Step.{run_first, take_and_run, unless_waiting, unless_down, next}
use Rattle.init_machine.specs.Taking.{Taken}
use Rattle.init_machine.specs.declared.action.Action.{Action}
use Rattle.init_machine.specs.declared.action.Command.{Command}
use Rattle.init_machine.specs.declared.action.CommandRef.{CommandRef}
use Rattle.init_machine.specs.declared.output.Output.{Output}
use Rattle.init_machine.specs.declared.output.Output.TheVariants as output
use Rattle.init_machine.specs.declared.waiting.Waiting.{Waiting}
use Rattle.action_queue.specs.Queue.{IsNext, without_first}
use Rattle.outputs.specs.Joins.{Joins}
use Rattle.machine_parts.specs.Parts.{Does, state_of, rules_of, actions_of}
use Rattle.machine_parts.specs.Schedule.{ScheduleView, taken_in, schedule_after}
use Rattle.machine_parts.specs.declared.parts.Parts.{Parts}
use Rattle.machine_parts.proofs.Doing.{does_plain, does_both, does_more}
use Rattle.init_core.proofs.Taken.{none_of_taken}

pub next_at : (place : Option CommandRef) (at : CommandRef) (actions : List Action) (running : List (List Command)) → place ≡ Some at
    → MatchOption place (running ≡ []) (IsNext actions running) → IsNext actions running at
next_at place at actions running is next = subst (λ (o : Option CommandRef). MatchOption o (running ≡ []) (IsNext actions running)) is next

pub none_next : (place : Option CommandRef) (actions : List Action) (running : List (List Command)) → place ≡ None
    → MatchOption place (running ≡ []) (IsNext actions running) → running ≡ []
none_next place actions running is next = subst (λ (o : Option CommandRef). MatchOption o (running ≡ []) (IsNext actions running)) is next

-- the state when events were taken, with these actions running
abbrev with_running : State → Taken → List (List Command) → State
with_running s t running = record s { events = t.events; running = running; changes = s.changes || t.changes }

module _ {S O : Type 0} {meaning : S → Props} {told : S → Option (List (List ℕ × List ℕ))} {adds : O → O → List Output → Type 0} (joins : Joins adds) where
  -- events were taken, and a command
  takes : (old : Parts S O) (queue : ScheduleView) (store : S) (outputs : O)
      → queue ≡ schedule_after old.queue (taken_in (meaning old.store) old.queue) → adds old.outputs outputs ((taken_in (meaning old.store) old.queue).lines)
      → meaning store ≡ meaning old.store → told store ≡ told old.store
      → (let t = taken_in (meaning old.store) old.queue in
      Does meaning told adds old (record old { queue = queue; store = store; outputs = outputs }) (change (with_running (state_of meaning old) t (without_first t.running)) t.lines))
  takes old queue store outputs queued lines same tells =
      does_plain joins
      (λ i. record (state_of meaning old) { props = same i; events = (queued i).events; running = (queued i).running; changes = (queued i).changes; had_boot = (queued i).had_boot })
      lines tells refl (ap (λ (q : ScheduleView). q.actions) queued)
      (none_of_taken (matches (value_in (meaning old.store))) old.queue.actions old.queue.running old.queue.events)

  -- nothing runs
  pub idles : (old : Parts S O) (queue : ScheduleView) (store : S) (outputs all : O)
      → queue ≡ schedule_after old.queue (taken_in (meaning old.store) old.queue) → adds old.outputs outputs ((taken_in (meaning old.store) old.queue).lines)
      → meaning store ≡ meaning old.store → told store ≡ told old.store → (taken_in (meaning old.store) old.queue).running ≡ []
      → adds outputs all (output.Idle ∷ [])
      → Does meaning told adds old (record old { queue = queue; store = store; outputs = all }) (take_and_run (actions_of old) (rules_of old) (state_of meaning old))
  idles old queue store outputs all queued lines same tells none more =
      let s = state_of meaning old in
      let t = taken_in (meaning old.store) old.queue in
      let new : Parts S O = record old { queue = queue; store = store; outputs = all } in
      let done : Does meaning told adds old new (change (with_running s t (without_first t.running)) (t.lines ++ output.Idle ∷ [])) =
      does_more joins all (output.Idle ∷ []) (takes old queue store outputs queued lines same tells) more refl in
      subst (λ (running : List (List Command)). Does meaning told adds old new (behind t.lines (run_first (rules_of old) running (with_running s t running)))) (sym none)
      (subst (λ (running : List (List Command)). Does meaning told adds old new (change (with_running s t (without_first running)) (t.lines ++ output.Idle ∷ []))) none done)

  -- a command runs
  pub runs_next : (old new : Parts S O) (queue : ScheduleView) (store : S) (outputs : O) (command : Command) (commands : List Command) (others : List (List Command))
      → queue ≡ schedule_after old.queue (taken_in (meaning old.store) old.queue) → adds old.outputs outputs ((taken_in (meaning old.store) old.queue).lines)
      → meaning store ≡ meaning old.store → told store ≡ told old.store → (taken_in (meaning old.store) old.queue).running ≡ (command ∷ commands) ∷ others
      → (let mid : Parts S O = record old { queue = queue; store = store; outputs = outputs } in
      Does meaning told adds mid new (effect (rules_of mid) command (state_of meaning mid))
      → Does meaning told adds old new (take_and_run (actions_of old) (rules_of old) (state_of meaning old)))
  runs_next old new queue store outputs command commands others queued lines same tells runs second =
      let s = state_of meaning old in
      let t = taken_in (meaning old.store) old.queue in
      let done : Does meaning told adds old new (behind t.lines (effect (rules_of old) command (with_running s t (without_first t.running)))) =
      does_both joins (λ rules now. effect rules command now) (takes old queue store outputs queued lines same tells) second in
      subst (λ (running : List (List Command)). Does meaning told adds old new (behind t.lines (run_first (rules_of old) running (with_running s t running)))) (sym runs)
      (subst (λ (running : List (List Command)). Does meaning told adds old new (behind t.lines (effect (rules_of old) command (with_running s t (without_first running))))) runs done)

  -- the machine waits, or it doesn't
  waiting_blocks : (old new : Parts S O) (waits : Option Waiting) (rule : State → Change) → true ≡ is_some waits
      → Does meaning told adds old new (change (state_of meaning old) (output.Blocked ∷ [])) → Does meaning told adds old new (unless_waiting waits (state_of meaning old) rule)
  waiting_blocks old new None rule is done = absurd (cc)
  waiting_blocks old new (Some what) rule is done = done

  free_goes_on : (old new : Parts S O) (waits : Option Waiting) (rule : State → Change) → false ≡ is_some waits
      → Does meaning told adds old new (rule (state_of meaning old)) → Does meaning told adds old new (unless_waiting waits (state_of meaning old) rule)
  free_goes_on old new None rule is done = done
  free_goes_on old new (Some what) rule is done = absurd (cc)

  pub blocks : (old : Parts S O) (outputs : O) → true ≡ is_some old.waits → adds old.outputs outputs (output.Blocked ∷ [])
      → Does meaning told adds old (record old { outputs = outputs }) (next (actions_of old) (rules_of old) (state_of meaning old))
  unfolding next
  blocks old outputs is line = waiting_blocks old _ old.waits (take_and_run (actions_of old) (rules_of old)) is (does_plain joins refl line refl refl refl refl)

  pub is_free : (old new : Parts S O) → false ≡ is_some old.waits → Does meaning told adds old new (take_and_run (actions_of old) (rules_of old) (state_of meaning old))
      → Does meaning told adds old new (next (actions_of old) (rules_of old) (state_of meaning old))
  unfolding next
  is_free old new is done = free_goes_on old new old.waits (take_and_run (actions_of old) (rules_of old)) is done

  -- the machine is over, or it isn't
  pub is_down : (old : Parts S O) (outputs : O) (over : Option (List ℕ)) (rule : State → Change) → true ≡ is_some over → adds old.outputs outputs (output.Down ∷ [])
      → Does meaning told adds old (record old { outputs = outputs }) (unless_down over (state_of meaning old) rule)
  is_down old outputs None rule is line = absurd (cc)
  is_down old outputs (Some target) rule is line = does_plain joins refl line refl refl refl refl

  pub is_up : (old new : Parts S O) (over : Option (List ℕ)) (rule : State → Change) → false ≡ is_some over → Does meaning told adds old new (rule (state_of meaning old))
      → Does meaning told adds old new (unless_down over (state_of meaning old) rule)
  is_up old new None rule is done = done
  is_up old new (Some target) rule is done = absurd (cc)
