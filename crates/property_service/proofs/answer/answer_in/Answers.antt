use Rattle.std.proofs.Common.{◌-◌, ℕ, slice_get, sym, ap, ◌∙◌, subst}
use Rattle.property_area.specs.Readers.{IsAnswer}
use Rattle.property_service.proofs.Asking.{answers_last, last_at, none_at}
use Rattle.property_service.proofs.answer.answer_in.Goals as goal

pub answer_by-requires : goal.answer_by-requires
answer_by-requires c =
    let place = c.saturating_sub.ensures ∙ ap (λ (n : ℕ). n - 1) c.len.ensures in
    let last = last_at c.args.outputs.now c.in-Some.line.now (ap (slice_get c.args.outputs.now) (sym place) ∙ sym (c.in-Some.ensures)) in
    subst IsAnswer last c.requires

pub unreachable-requires : goal.unreachable-requires
unreachable-requires c =
    let place = c.saturating_sub.ensures ∙ ap (λ (n : ℕ). n - 1) c.len.ensures in
    let last = none_at c.args.outputs.now (ap (slice_get c.args.outputs.now) (sym place) ∙ sym (c.in-None.ensures)) in
    subst IsAnswer last c.requires

pub returns : goal.returns
returns c =
    let place = c.saturating_sub.ensures ∙ ap (λ (n : ℕ). n - 1) c.len.ensures in
    let last = last_at c.args.outputs.now c.in-Some.line.now (ap (slice_get c.args.outputs.now) (sym place) ∙ sym (c.in-Some.ensures)) in
    answers_last c.answer_by.result c.args.outputs.now c.in-Some.line.now last c.answer_by.ensures
