-- Sets of properties keep a relation that their smallest changes keep.
use Rattle.std.proofs.Common.{◌≡◌, ℕ, Bool, true, false, List, [], ◌∷◌, ◌++◌, Option, Some, None, if◌then◌else◌, refl}
use Rattle.init_machine.specs.Changes.{Change}
use Rattle.init_machine.specs.Services.{tell, state_name}
use Rattle.init_machine.specs.Setting.{Judged, judged, set_answer, put_line, put_property, stored_lines, is_persistent, is_stored, released_lines, awaits, set_property, unset_lines, told_refusal}
use Rattle.init_machine.specs.State.{State, Rules}
use Rattle.init_machine.specs.declared.output.Output.{Output}
use Rattle.init_machine.specs.declared.output.Output.TheVariants as output
use Rattle.init_machine.specs.declared.output.SetRefusal.{SetRefusal}
use Rattle.machine_laws.proofs.Failures.{AnswerHasText, answer_has_text}
use Rattle.machine_laws.proofs.Relation.{By, Sets}
use Rattle.machine_laws.proofs.Tests.{right_holds}

-- a set is in the relation, and its refusal has a text
pub record ByJudged (R : State → List Output → State → Type 0) (s : State) (answer : Judged) : Type 0 where
  pub did : By R s answer.done
  pub text : AnswerHasText answer.refused

pub judged_choice : (R : State → List Output → State → Type 0) (s : State) (b : Bool) (one other : Judged)
    → (b ≡ true → ByJudged R s one) → (b ≡ false → ByJudged R s other) → ByJudged R s (if b then one else other)
judged_choice R s true one other left right = left refl
judged_choice R s false one other left right = right refl

module _ (rules : Rules) (R : State → List Output → State → Type 0) (sets : Sets rules R) where
  stored_by : (b : Bool) (s : State) (name : List ℕ) → (b ≡ true → s.saving ≡ true) → R s (if b then output.Stored name ∷ [] else []) s
  stored_by true s name on = sets.stored s name (on refl)
  stored_by false s name on = sets.none s

  released_by : (ends : Bool) (s : State) → R s (released_lines ends) s
  released_by true s = sets.line s output.Released tt
  released_by false s = sets.none s

  put_by : (by : Option (List ℕ)) (name value : List ℕ) (s : State) → set_answer rules s by name value ≡ None → By R s (put_property s name value)
  unfolding put_property
  put_by by name value s accepted =
      let t = (put_property s name value).state in
      sets.joined s t t (put_line s name value ∷ []) (stored_lines s name ++ released_lines (awaits s.waits name value)) (sets.put s by name value accepted)
      (sets.joined t t t (stored_lines s name) (released_lines (awaits s.waits name value)) (stored_by (is_stored s name) t name (right_holds (is_persistent name) s.saving))
      (released_by (awaits s.waits name value) t))

  pub judged_by : (s : State) (answer : Option SetRefusal) (c : Change) → AnswerHasText answer → (answer ≡ None → By R s c) → ByJudged R s (judged answer s c)
  judged_by s None c text did = record { did = did refl; text = tt }
  judged_by s (Some why) c text did = record { did = sets.none s; text = text }

  pub set_property_by : (by : Option (List ℕ)) (name value : List ℕ) (s : State) → ByJudged R s (set_property rules s by name value)
  unfolding set_property
  set_property_by by name value s =
      judged_by s (set_answer rules s by name value) (put_property s name value) (answer_has_text rules s by name value) (put_by by name value s)

  pub unset_by : (s t : State) (lines : List Output) (name : List ℕ) (refused : Option SetRefusal) → AnswerHasText refused → R s lines t
      → R s (lines ++ unset_lines name refused) t
  unset_by s t lines name None text did = sets.joined s t t lines [] did (sets.none t)
  unset_by s t lines name (Some why) text did = sets.joined s t t lines (output.Unset name why ∷ []) did (sets.line t (output.Unset name why) text)

  pub told_by : (s : State) (name : List ℕ) (answer : Judged) → ByJudged R s answer → By R s (told_refusal name answer)
  told_by s name answer by = unset_by s answer.done.state answer.done.lines name answer.refused by.text by.did

  -- the state of a service is told
  pub tell_by : (name word : List ℕ) (s : State) → By R s (tell rules name word s)
  unfolding tell
  tell_by name word s = told_by s (state_name name) (set_property rules s None (state_name name) word) (set_property_by None (state_name name) word s)
