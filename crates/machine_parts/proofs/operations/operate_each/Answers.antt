-- One place more, until none is left or the machine is over.
use Rattle.std.proofs.Common.{◌≡◌, ◌+◌, ◌<◌, ◌∷◌, [], ℕ, Bool, true, false, List, Option, Some, None, get_or, drop, length, refl, rules, ap, subst, sym, ◌∙◌, add-one, drop-cons, ◌≤◌}
use Rattle.std.proofs.lemmas.List.{drop_all}
use Rattle.std.specs.Option.{is_some}
use Rattle.machine_parts.specs.Parts.{rules_of}
use Rattle.machine_parts.proofs.Each.{begins, by_rules, ends, goes_on, rule_of, stops, whole}
use Rattle.machine_parts.proofs.operations.operate_each.Goals as goal

next_place : (places items : List ℕ) (i : ℕ) → items ≡ places → i < length items → drop i places ≡ get_or items i 0 ∷ drop (i + 1) places
next_place places items i is within =
    let fits : i < length places = subst (λ (xs : List ℕ). i < length xs) is within in
    let first : drop i places ≡ get_or places i 0 ∷ drop (i + 1) places = rw (add-one, drop-cons places i 0) refl in
    first ∙ ap (λ (xs : List ℕ). get_or xs i 0 ∷ drop (i + 1) places) (sym is)

no_place : (places items : List ℕ) (i : ℕ) → items ≡ places → length items ≤ i → drop i places ≡ []
no_place places items i is past = drop_all i places (subst (λ (xs : List ℕ). length xs ≤ i) is past)

is_none : (over : Option (List ℕ)) → is_some over ≡ false → over ≡ None
is_none None not = refl
is_none (Some target) not = absurd (cc)

target_of : (over : Option (List ℕ)) → is_some over ≡ true → (target : List ℕ) × (over ≡ Some target)
target_of None some = absurd (cc)
target_of (Some target) some = (target, refl)

pub loop-at-init : goal.loop-at-init
loop-at-init g c = record {
  done = begins g.S.PropStore.meaning g.S.PropStore.told g.met.O.Outputs.joins c.args.parts.now (rule_of (rules_of c.args.parts.now) c.args.op) c.args.places.now;
  beside = search rules;
}

pub loop-at-preserved : goal.loop-at-preserved
loop-at-preserved g c = record {
  done =
      goes_on g.S.PropStore.meaning g.S.PropStore.told g.met.O.Outputs.joins c.args.parts.now c.loop-at.parts c.operate.new.parts (rule_of (rules_of c.args.parts.now) c.args.op) c.args.places.now
      (drop c.loop-at.at-index c.args.places.now) (get_or c.items-at-items.result.now c.loop-at.at-index 0) (drop (c.loop-at.at-index + 1) c.args.places.now) c.loop-at.invariant.done
      (next_place c.args.places.now c.items-at-items.result.now c.loop-at.at-index c.items-at-items.ensures c.loop-at-test.true)
      (by_rules g.S.PropStore.meaning g.S.PropStore.told g.met.O.Outputs.joins c.args.parts.now c.loop-at.parts c.operate.new.parts c.args.op (get_or c.items-at-items.result.now c.loop-at.at-index 0)
      c.loop-at.invariant.done.does.rules c.in_ok-operate.ensures.done)
      (is_none c.operate.new.parts.over (sym c.is_some.ensures ∙ c.if-is_some.false));
  beside = search (rules, c.loop-at.invariant.beside, c.operate.ensures.beside);
}

pub returns-then-is_some-clause-done : goal.returns-then-is_some-clause-done
returns-then-is_some-clause-done g c =
    let over = target_of c.operate.new.parts.over (sym c.is_some.ensures ∙ c.if-is_some.true) in
    whole g.S.PropStore.meaning g.S.PropStore.told g.met.O.Outputs.joins c.args.parts.now c.operate.new.parts c.args.op c.args.places.now
    (stops g.S.PropStore.meaning g.S.PropStore.told g.met.O.Outputs.joins c.args.parts.now c.loop-at.parts c.operate.new.parts (rule_of (rules_of c.args.parts.now) c.args.op) c.args.places.now
    (drop c.loop-at.at-index c.args.places.now) (get_or c.items-at-items.result.now c.loop-at.at-index 0) (drop (c.loop-at.at-index + 1) c.args.places.now) over.0 c.loop-at.invariant.done
    (next_place c.args.places.now c.items-at-items.result.now c.loop-at.at-index c.items-at-items.ensures c.loop-at-test.true)
    (by_rules g.S.PropStore.meaning g.S.PropStore.told g.met.O.Outputs.joins c.args.parts.now c.loop-at.parts c.operate.new.parts c.args.op (get_or c.items-at-items.result.now c.loop-at.at-index 0)
    c.loop-at.invariant.done.does.rules c.in_ok-operate.ensures.done) over.1)

pub returns-clause-done : goal.returns-clause-done
returns-clause-done g c =
    whole g.S.PropStore.meaning g.S.PropStore.told g.met.O.Outputs.joins c.args.parts.now c.loop-at.parts c.args.op c.args.places.now
    (ends g.S.PropStore.meaning g.S.PropStore.told g.met.O.Outputs.joins c.args.parts.now c.loop-at.parts (rule_of (rules_of c.args.parts.now) c.args.op) c.args.places.now
    (drop c.loop-at.at-index c.args.places.now) c.loop-at.invariant.done (no_place c.args.places.now c.items-at-items.result.now c.loop-at.at-index c.items-at-items.ensures c.loop-at-test.false))
