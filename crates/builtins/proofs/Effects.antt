-- What a command does, by its expanded arguments.
use Rattle.std.proofs.Common.{◌≡◌, ◌∷◌, [], ℕ, List, Option, refl, sym, ap, ◌∙◌, subst, Result, Ok, Err, MatchResult}
use Rattle.init_machine.specs.Changes.{Change, behind, change, nothing}
use Rattle.init_machine.specs.History.{sets_in}
use Rattle.init_machine.specs.Effect.{Ran, args_shown, command_line, effect, effect_by, end_command, ending_line, expand_all, perform, waiting_by}
use Rattle.init_machine.specs.Props.{Props, value_in}
use Rattle.init_machine.specs.State.{Rules, State, value_now}
use Rattle.init_machine.specs.Tasks.{task_of}
use Rattle.init_machine.specs.declared.action.Command.{Command}
use Rattle.init_machine.specs.declared.output.Cause.{Cause}
use Rattle.init_machine.specs.declared.task.Done.{Done}
use Rattle.init_machine.specs.declared.task.Task.{Task}
use Rattle.init_machine.specs.declared.task.Done.TheVariants as done
use Rattle.init_machine.specs.declared.waiting.Waiting.{Waiting}
use Rattle.init_machine.specs.declared.waiting.Waiting.TheVariants as waiting
use Rattle.init_machine.specs.declared.output.Output.{Output}
use Rattle.outputs.specs.Joins.{Joins}
use Rattle.machine_parts.specs.Parts.{Does, rules_of, state_of}
use Rattle.machine_parts.specs.declared.parts.Parts.{Parts}
use Rattle.machine_parts.proofs.Doing.{does_behind, does_plain, does_both}

-- the command as its line shows it does the same
as_shown : (rules : Rules) (c : Command) (args : Result (List (List ℕ)) Cause) (s : State)
    → effect_by rules (record c { args = args_shown c args }) args s ≡ effect_by rules c args s
as_shown rules c (Err why) s = refl
as_shown rules c (Ok args) s = refl

effect_shown : (rules : Rules) (c : Command) (shown : List (List ℕ)) (args : Result (List (List ℕ)) Cause) (s : State)
    → args_shown c args ≡ shown → expand_all (value_now s) c.args ≡ args → effect_by rules (record c { args = shown }) args s ≡ effect rules c s
unfolding effect
effect_shown rules c shown args s shows is =
    ap (λ (a : List (List ℕ)). effect_by rules (record c { args = a }) args s) (sym shows)
    ∙ as_shown rules c args s
    ∙ ap (λ (a : Result (List (List ℕ)) Cause). effect_by rules c a s) (sym is)

-- the arguments could be expanded, or not

pub could_be : {A : Type 0} (r : Result A Cause) (a : A) (args : Result (List (List ℕ)) Cause) (new old : List (List ℕ)) → r ≡ Ok a
    → MatchResult r (λ _. args ≡ Ok new) (λ why. (args ≡ Err why) × (new ≡ old)) → args ≡ Ok new
could_be {A} r a args new old is = subst (λ (x : Result A Cause). MatchResult x (λ _. args ≡ Ok new) (λ why. (args ≡ Err why) × (new ≡ old))) is

pub could_not_be : {A : Type 0} (r : Result A Cause) (why : Cause) (args : Result (List (List ℕ)) Cause) (new old : List (List ℕ)) → r ≡ Err why
    → MatchResult r (λ _. args ≡ Ok new) (λ why. (args ≡ Err why) × (new ≡ old)) → (args ≡ Err why) × (new ≡ old)
could_not_be {A} r why args new old is = subst (λ (x : Result A Cause). MatchResult x (λ _. args ≡ Ok new) (λ why. (args ≡ Err why) × (new ≡ old))) is

-- a state with what an ending waits for
abbrev ended : Done → State → State
ended ending s = record s { waits = waiting_by ending s.waits }

-- the line of an ending is no set
ending_sets_none : (ending : Done) → sets_in (ending_line ending ∷ []) ≡ []
ending_sets_none done.Ok = refl
ending_sets_none (done.Failed why) = refl
ending_sets_none (done.Wait (waiting.Child pid)) = refl
ending_sets_none (done.Wait (waiting.Prop awaited)) = refl
ending_sets_none (done.Wait (waiting.File path until)) = refl

module _ {S O : Type 0} {meaning : S → Props} {told : S → Option (List (List ℕ × List ℕ))} {adds : O → O → List Output → Type 0} (joins : Joins adds) where
  -- a store that was read means the same
  does_read : (p : Parts S O) (s : S) → meaning s ≡ meaning p.store → told s ≡ told p.store → Does meaning told adds p (record p { store = s }) (nothing (state_of meaning p))
  does_read p s same tells = does_plain joins (ap (λ (props : Props). record (state_of meaning p) { props = props }) same) (joins.none p.outputs) tells refl refl refl

  -- the arguments were expanded, and the command did what it then does
  pub expanded_runs : (p new : Parts S O) (store : S) (c : Command) (shown : List (List ℕ)) (args : Result (List (List ℕ)) Cause)
      → meaning store ≡ meaning p.store → told store ≡ told p.store → args_shown c args ≡ shown → expand_all (value_in (meaning p.store)) c.args ≡ args
      → (let mid : Parts S O = record p { store = store } in
      Does meaning told adds mid new (effect_by (rules_of mid) (record c { args = shown }) args (state_of meaning mid))
      → Does meaning told adds p new (effect (rules_of p) c (state_of meaning p)))
  expanded_runs p new store c shown args same tells shows is done =
      subst (λ (x : Change). Does meaning told adds p new x) (effect_shown (rules_of p) c shown args (state_of meaning p) shows is)
      (does_both joins (λ rules now. effect_by rules (record c { args = shown }) args now) (does_read p store same tells) done)

  -- the ending of a command was told, and what it waits for
  ends_so : (p : Parts S O) (waits : Option Waiting) (outs : O) (ending : Done) → waits ≡ waiting_by ending p.waits → adds p.outputs outs (ending_line ending ∷ [])
      → Does meaning told adds p (record p { waits = waits; outputs = outs }) (change (ended ending (state_of meaning p)) (ending_line ending ∷ []))
  ends_so p waits outs ending is line =
      does_plain joins (ap (λ (w : Option Waiting). record (state_of meaning p) { waits = w }) is) line refl refl refl (ending_sets_none ending)

  -- what a command did was told, and its ending
  pub ends_as : (p mid : Parts S O) (outs : O) (waits : Option Waiting) (ending : Done) (r : Ran) → Does meaning told adds p mid r.did → ending ≡ r.ending
      → waits ≡ waiting_by ending mid.waits → adds mid.outputs outs (ending_line ending ∷ [])
      → Does meaning told adds p (record mid { waits = waits; outputs = outs }) (end_command r)
  ends_as p mid outs waits ending r did is waits_is last =
      subst (λ (d : Done). Does meaning told adds p (record mid { waits = waits; outputs = outs }) (behind r.did.lines (change (ended d r.did.state) (ending_line d ∷ [])))) is
      (subst (λ (s : State). Does meaning told adds p (record mid { waits = waits; outputs = outs }) (behind r.did.lines (change (ended ending s) (ending_line ending ∷ [])))) did.state
      (does_behind joins did (ends_so mid waits outs ending waits_is last)))

  -- a line that is no set was told, and then the rest was done
  pub told_first : (p new : Parts S O) (said : O) (line : Output) (c : Change) → adds p.outputs said (line ∷ []) → sets_in (line ∷ []) ≡ []
      → Does meaning told adds (record p { outputs = said }) new c → Does meaning told adds p new (behind (line ∷ []) c)
  told_first p new said line c first none done = does_behind joins (does_plain joins {s = state_of meaning p} refl first refl refl refl none) done

  -- a command whose arguments stand for themselves did what it does
  pub runs_as_written : (p new : Parts S O) (c : Command) → expand_all (value_in (meaning p.store)) c.args ≡ Ok c.args
      → Does meaning told adds p new (effect_by (rules_of p) c (Ok c.args) (state_of meaning p)) → Does meaning told adds p new (effect (rules_of p) c (state_of meaning p))
  runs_as_written p new c is done = subst (λ (x : Change). Does meaning told adds p new x) (effect_shown (rules_of p) c c.args (Ok c.args) (state_of meaning p) refl is) done

  -- a command whose arguments stand for themselves: its line was told, and then its task was done
  pub queued_ran : (p new : Parts S O) (said : O) (c : Command) (args : List (List ℕ)) (task : Task) → args ≡ c.args
      → expand_all (value_in (meaning p.store)) args ≡ Ok args → task ≡ task_of c.word args → adds p.outputs said (command_line c c.args ∷ [])
      → Does meaning told adds (record p { outputs = said }) new (end_command (perform (rules_of p) task (state_of meaning p)))
      → Does meaning told adds p new (effect (rules_of p) c (state_of meaning p))
  queued_ran p new said c args task are expands is line done =
      let s = state_of meaning p in
      runs_as_written p new c (subst (λ (a : List (List ℕ)). expand_all (value_in (meaning p.store)) a ≡ Ok a) are expands)
      (subst (λ (t : Task). Does meaning told adds p new (behind (command_line c c.args ∷ []) (end_command (perform (rules_of p) t s))))
      (is ∙ ap (task_of c.word) are)
      (told_first p new said (command_line c c.args) (end_command (perform (rules_of p) task s)) line refl done))
