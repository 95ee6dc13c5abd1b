use Rattle.std.proofs.Common.{◌≡◌, ◌+◌, ◌≤◌, ℕ, IsTrue, true, false, List, [], length, arith, sym, ◌∙◌, below_more, subst, inl, inr}
use Rattle.std.proofs.lemmas.Bool.{cases_lt}
use Rattle.trace_audit.specs.Progress.{sets_left}
use Rattle.trace_audit.proofs.Lefts.{sets_here, sets_past, of_some, of_none}
use Rattle.trace_audit.proofs.progress.have_no_set.Goals as goal

pub returns-then-is_some-clause-some : goal.returns-then-is_some-clause-some
returns-then-is_some-clause-some c =
    λ (no : false ≡ false) (all : (who : ℕ) → sets_left c.args.acts.now c.args.places.now.items who ≡ []).
    let some = of_some _ _ _ c.next_set.ensures (sym c.is_some.ensures ∙ c.if-is_some.true) in
    let here = sets_here c.args.acts.now c.args.places.now.items c.deref-from-items.result.now c.loop-index.index c.deref-from-items.ensures.value c.loop-index-test.true in
    let none = all (c.loop-index.index + 1) in
    cc (some.1.1, here, none)

pub loop-index-preserved : goal.loop-index-preserved
loop-index-preserved c =
    let none = of_none _ _ _ c.next_set.ensures (sym c.is_some.ensures ∙ c.if-is_some.false) in
    let here = sets_here c.args.acts.now c.args.places.now.items c.deref-from-items.result.now c.loop-index.index c.deref-from-items.ensures.value c.loop-index-test.true in
    below_more _ _ c.loop-index.invariant (here ∙ none)

pub returns-clause-all : goal.returns-clause-all
returns-clause-all c =
    λ (yes : IsTrue true) (who : ℕ).
    elim (cases_lt who (c.loop-index.index + 1)) [
      | inl below ↦ c.loop-index.invariant who below
      | inr past ↦
          let all : length c.args.places.now.items ≤ c.loop-index.index = subst (λ (xs : List ℕ). length xs ≤ c.loop-index.index) c.deref-from-items.ensures.value c.loop-index-test.false in
          sets_past c.args.acts.now c.args.places.now.items who (omega arith)
    ]
