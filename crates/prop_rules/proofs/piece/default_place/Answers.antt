use Rattle.std.proofs.Common.{◌≡◌, true, sym, ◌∙◌, arith}
use Rattle.std.proofs.lemmas.List.{take_rest}
use Rattle.prop_rules.proofs.Defaults.{begins_at, no_default, first_default}
use Rattle.prop_rules.proofs.piece.default_place.Goals as goal

pub returns-clause-place : goal.returns-clause-place
returns-clause-place c = sym (no_default c.args.inside.now (λ k below. c.loop-place.invariant k (omega arith)))

pub returns-then-starts_with-clause-place : goal.returns-then-starts_with-clause-place
returns-then-starts_with-clause-place c =
    let here : begins_at c.args.inside.now c.loop-place.place ≡ true =
    sym (simp take_rest at c.starts_with.ensures.value) ∙ c.if-starts_with.true in
    sym (first_default c.args.inside.now c.loop-place.place c.loop-place.invariant here)
