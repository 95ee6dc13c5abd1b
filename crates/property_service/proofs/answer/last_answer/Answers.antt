use Rattle.std.proofs.Common.{◌≡◌, ◌-◌, ℕ, Some, Result, IfOk, List, slice_get, sym, ap, ◌∙◌, subst}
use Rattle.init_machine.specs.declared.output.Output.{Output}
use Rattle.init_machine.specs.declared.output.SetRefusal.{SetRefusal}
use Rattle.property_area.specs.Readers.{last_of, IsAnswer}
use Rattle.property_service.proofs.Asking.{last_entry_at, no_entry_at}
use Rattle.property_service.specs.Back.{line_of}
use Rattle.property_service.specs.declared.answer.Accepted.{Accepted}
use Rattle.property_service.proofs.answer.last_answer.Goals as goal

pub answer_in-requires : goal.answer_in-requires
answer_in-requires c =
    let place = c.saturating_sub.ensures ∙ ap (λ (n : ℕ). n - 1) c.len.ensures in
    let last = last_entry_at c.args.history.now c.in-Some.entry.now (ap (slice_get c.args.history.now) (sym place) ∙ sym (c.in-Some.ensures)) in
    subst (λ (outputs : List Output). IsAnswer (last_of outputs)) last c.requires

pub unreachable-requires : goal.unreachable-requires
unreachable-requires c =
    let place = c.saturating_sub.ensures ∙ ap (λ (n : ℕ). n - 1) c.len.ensures in
    let last = no_entry_at c.args.history.now (ap (slice_get c.args.history.now) (sym place) ∙ sym (c.in-None.ensures)) in
    subst (λ (outputs : List Output). IsAnswer (last_of outputs)) last c.requires

pub returns : goal.returns
returns c =
    let place = c.saturating_sub.ensures ∙ ap (λ (n : ℕ). n - 1) c.len.ensures in
    let last = last_entry_at c.args.history.now c.in-Some.entry.now (ap (slice_get c.args.history.now) (sym place) ∙ sym (c.in-Some.ensures)) in
    subst (λ (outputs : List Output). IfOk c.answer_in.result (λ (a : Result Accepted SetRefusal). last_of outputs ≡ Some (line_of a))) (sym last) c.answer_in.ensures
