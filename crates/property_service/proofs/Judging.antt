-- How a client's set is judged.
use Rattle.std.proofs.Common.{◌≡◌, ℕ, true, false, List, [], ◌∷◌, ◌++◌, length, Some, Result, Err, sym, ap, ◌∙◌, subst}
use Rattle.history_laws.proofs.Settling.{reached_settled}
use Rattle.init_machine.specs.History.{Legal, inputs_of, sets_of}
use Rattle.init_machine.specs.Setting.{is_control}
use Rattle.init_machine.specs.State.{State}
use Rattle.init_machine.specs.Step.{answer_line}
use Rattle.init_machine.specs.declared.output.Output.{Output}
use Rattle.init_machine.specs.declared.output.SetRefusal.{SetRefusal}
use Rattle.init_machine.specs.declared.output.SetRefusal.TheVariants.{NoMemory, Spent}
use Rattle.init_machine.specs.declared.report.Entry.{Entry}
use Rattle.machine_laws.proofs.Counted.{sets_count}
use Rattle.property_area.specs.Readers.{last_of, IsAnswer}
use Rattle.property_service.proofs.Asking.{answer_is, answer_reached, last_outputs-end, line_answers}
use Rattle.property_service.proofs.Moves.{state_next}
use Rattle.property_service.specs.Back.{has_entry, line_of}
use Rattle.property_service.specs.Service.{ServiceView, last_outputs, next_entry, refusal_now, set_by, state_after}
use Rattle.property_service.specs.declared.answer.Accepted.{Accepted}

same_line : (a b : Output) → Some a ≡ Some b → a ≡ b
same_line a b is = cc

-- A set of a client was taken, and this is the history with its entry.
module _ (s : ServiceView) (who : ℕ) (name value : List ℕ) (history : List Entry) (now : history ≡ s.history ++ next_entry s (set_by who name value) ∷ []) where
  abbrev e : Entry
  e = next_entry s (set_by who name value)

  outputs_now : last_outputs history ≡ e.outputs
  outputs_now = ap last_outputs now ∙ last_outputs-end s.history e

  ends : Legal s.opening history → last_of e.outputs ≡ Some (answer_line (refusal_now s who name value) (is_control name) (length (sets_of history)))
  ends legal =
      answer_is s.opening.config s.opening.policy (state_after s) (record { 0 = who }) name value (reached_settled s.opening (inputs_of s.history))
      ∙ ap (λ (n : ℕ). Some (answer_line (refusal_now s who name value) (is_control name) n))
      (sym (ap (λ (t : State). t.props.count) (state_next s.opening s.history e))
      ∙ sets_count s.opening (s.history ++ e ∷ []) (subst (Legal s.opening) now legal)
      ∙ ap (λ (h : List Entry). length (sets_of h)) (sym now))

  pub has_answer : Legal s.opening history → IsAnswer (last_of (last_outputs history))
  has_answer legal = subst IsAnswer (sym (ap last_of outputs_now ∙ ends legal)) (line_answers (refusal_now s who name value) (is_control name) (length (sets_of history)))

  -- the answer that was found
  module _ (answer : Result Accepted SetRefusal) (found : last_of (last_outputs history) ≡ Some (line_of answer)) where
    pub answer_found : last_of e.outputs ≡ Some (line_of answer)
    answer_found = sym (ap last_of outputs_now) ∙ found

    pub answer_judged : Legal s.opening history → line_of answer ≡ answer_line (refusal_now s who name value) (is_control name) (length (sets_of history))
    answer_judged legal = same_line _ _ (sym answer_found ∙ ends legal)

    reached : has_entry answer ≡ true
    reached = answer_reached s.opening.config s.opening.policy (state_after s) (set_by who name value) answer answer_found

    pub not_spent : answer ≡ Err Spent → false ≡ true
    not_spent is = ap has_entry (sym is) ∙ reached

    pub not_short : answer ≡ Err NoMemory → false ≡ true
    not_short is = ap has_entry (sym is) ∙ reached
