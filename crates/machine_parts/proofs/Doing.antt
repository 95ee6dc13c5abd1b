-- What calls did one after another.
use Rattle.std.proofs.Common.{◌≡◌, ℕ, true, false, List, [], ◌++◌, Option, Some, None, Result, Ok, Err, OnOk, refl, sym, ap, ◌∙◌, subst, append_assoc}
use Rattle.std.specs.Option.{is_some}
use Rattle.std.proofs.lemmas.Bool.{false≢true}
use Rattle.std.proofs.lemmas.Grind.{flat_map-append}
use Rattle.std.proofs.lemmas.List.{append-nil}
use Rattle.init_machine.specs.Changes.{Change, change, nothing, behind, unless_over, and_then}
use Rattle.init_machine.specs.History.{set_in, sets_in}
use Rattle.init_machine.specs.Props.{Props, more_sets}
use Rattle.init_machine.specs.Setting.{unset_lines}
use Rattle.init_machine.specs.State.{State, Rules}
use Rattle.init_machine.specs.declared.output.Output.{Output}
use Rattle.init_machine.specs.declared.output.SetRefusal.{SetRefusal}
use Rattle.outputs.specs.Joins.{Joins}
use Rattle.machine_parts.specs.Parts.{Does, state_of, rules_of, actions_of}
use Rattle.machine_parts.specs.declared.parts.Parts.{Parts}

more_none : (sets : Option (List (List ℕ × List ℕ))) → sets ≡ more_sets sets []
more_none None = refl
more_none (Some sets) = ap Some (sym (append-nil sets))

more_more : (sets : Option (List (List ℕ × List ℕ))) (xs ys : List (List ℕ × List ℕ)) → more_sets (more_sets sets xs) ys ≡ more_sets sets (xs ++ ys)
more_more None xs ys = refl
more_more (Some sets) xs ys = ap Some (append_assoc sets xs ys)

-- lines without sets tell none
pub told_same : {S : Type 0} (told : S → Option (List (List ℕ × List ℕ))) (old new : S) (lines : List Output) → told new ≡ told old → sets_in lines ≡ []
    → told new ≡ more_sets (told old) (sets_in lines)
told_same told old new lines same none = same ∙ more_none (told old) ∙ ap (more_sets (told old)) (sym none)

-- the line of a refused set is no set
pub unset_sets_none : (name : List ℕ) (refused : Option SetRefusal) → sets_in (unset_lines name refused) ≡ []
unset_sets_none name None = refl
unset_sets_none name (Some why) = refl

module _ {S O : Type 0} {meaning : S → Props} {told : S → Option (List (List ℕ × List ℕ))} {adds : O → O → List Output → Type 0} (joins : Joins adds) where
  pub does_nothing : (p : Parts S O) → Does meaning told adds p p (nothing (state_of meaning p))
  does_nothing p = record { state = refl; lines = joins.none p.outputs; sets = more_none (told p.store); rules = refl; actions = refl }

  -- one call behind another
  pub does_behind : {old mid new : Parts S O} {c d : Change} → Does meaning told adds old mid c → Does meaning told adds mid new d → Does meaning told adds old new (behind c.lines d)
  does_behind {old} {mid} {new} {c} {d} first second = record {
    state = second.state;
    lines = joins.both old.outputs mid.outputs new.outputs c.lines d.lines first.lines second.lines;
    sets =
        second.sets ∙ ap (λ sets. more_sets sets (sets_in d.lines)) first.sets ∙ more_more (told old.store) (sets_in c.lines) (sets_in d.lines)
        ∙ ap (more_sets (told old.store)) (sym (flat_map-append set_in c.lines d.lines));
    rules = second.rules ∙ first.rules;
    actions = second.actions ∙ first.actions;
  }

  -- what the second call does is a rule in the state that the first one left
  pub does_both : {old mid new : Parts S O} {c : Change} (rule : Rules → State → Change) → Does meaning told adds old mid c
      → Does meaning told adds mid new (rule (rules_of mid) (state_of meaning mid)) → Does meaning told adds old new (behind c.lines (rule (rules_of old) c.state))
  does_both {old} {mid} {new} {c} rule first second =
      subst (λ (d : Change). Does meaning told adds old new (behind c.lines d))
      (ap (λ (rules : Rules). rule rules (state_of meaning mid)) first.rules ∙ ap (rule (rules_of old)) first.state)
      (does_behind first second)

  -- a second call, where the machine isn't over
  pub does_then : {old mid new : Parts S O} {c : Change} (rule : Rules → State → Change) → Does meaning told adds old mid c → is_some mid.over ≡ false
      → Does meaning told adds mid new (rule (rules_of mid) (state_of meaning mid)) → Does meaning told adds old new (and_then c (rule (rules_of old)))
  does_then {old} {mid} {new} {c} rule first up second =
      goes_on c.state.over (ap (λ (s : State). is_some s.over) (sym first.state) ∙ up)
    where
      goes_on : (over : Option (List ℕ)) → is_some over ≡ false → Does meaning told adds old new (unless_over over c (rule (rules_of old)))
      goes_on None is = does_both rule first second
      goes_on (Some target) is = absurd (false≢true (sym is))

  -- no second call, where the machine is over
  pub does_no_more : {old new : Parts S O} {c : Change} (rule : State → Change) → Does meaning told adds old new c → is_some new.over ≡ true
      → Does meaning told adds old new (and_then c rule)
  does_no_more {old} {new} {c} rule first over = stays c.state.over (ap (λ (s : State). is_some s.over) (sym first.state) ∙ over)
    where
      stays : (over : Option (List ℕ)) → is_some over ≡ true → Does meaning told adds old new (unless_over over c rule)
      stays None is = absurd (false≢true is)
      stays (Some target) is = first

  -- a state and lines without sets
  pub does_plain : {old new : Parts S O} {s : State} {lines : List Output} → state_of meaning new ≡ s → adds old.outputs new.outputs lines → told new.store ≡ told old.store
      → rules_of new ≡ rules_of old → actions_of new ≡ actions_of old → sets_in lines ≡ [] → Does meaning told adds old new (change s lines)
  does_plain {old} {new} {s} {lines} state outputs same rules actions none =
      record { state = state; lines = outputs; sets = told_same told old.store new.store lines same none; rules = rules; actions = actions }

  -- lines without sets more
  pub does_more : {old mid : Parts S O} {c : Change} (outputs : O) (more : List Output) → Does meaning told adds old mid c → adds mid.outputs outputs more → sets_in more ≡ []
      → Does meaning told adds old (record mid { outputs = outputs }) (change c.state (c.lines ++ more))
  does_more {old} {mid} {c} outputs more first is none =
      subst (λ (s : State). Does meaning told adds old (record mid { outputs = outputs }) (change s (c.lines ++ more))) first.state
      (does_behind first (does_plain {s = state_of meaning mid} refl is refl refl refl none))

-- what two clauses of a call give together
pub on_ok_both : {T E P Q R : Type 0} (r : Result T E) → (P → Q → R) → OnOk r P → OnOk r Q → OnOk r R
on_ok_both (Ok done) gives p q = gives p q
on_ok_both (Err why) gives p q = tt
