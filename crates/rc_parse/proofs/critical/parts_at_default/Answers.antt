use Rattle.std.proofs.Common.{◌≡◌, true, sym, ◌∙◌, arith}
use Rattle.std.proofs.lemmas.List.{take_rest}
use Rattle.rc_parse.proofs.Windows.{begins_at, no_parts, parts_at_first}
use Rattle.rc_parse.proofs.critical.parts_at_default.Goals as goal

pub returns : goal.returns
returns c = no_parts c.args.text.now (λ k below. c.loop-place.invariant k (omega arith))

pub returns-then-starts_with : goal.returns-then-starts_with
returns-then-starts_with c =
    let here : begins_at c.args.text.now c.loop-place.place ≡ true =
    sym (simp take_rest at c.starts_with.ensures.value) ∙ c.if-starts_with.true in
    simp take_rest (parts_at_first c.args.text.now c.loop-place.place c.loop-place.invariant here)
