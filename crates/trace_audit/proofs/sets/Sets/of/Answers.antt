use Rattle.std.proofs.Common.{◌≡◌, ◌<◌, ◌≤◌, ℕ, List, length, get_or, ap, subst, ◌∙◌, arith}
use Rattle.init_machine.specs.Sets.{Set}
use Rattle.trace_audit.specs.Indexed.{IsIndexed}
use Rattle.trace_audit.proofs.Indexing.{indexed_more}
use Rattle.trace_audit.proofs.sets.Sets.of.Goals as goal

pub loop-place-preserved : goal.loop-place-preserved
loop-place-preserved c =
    let pairs = c.args.pairs.items in
    let s : Set = c.pair-item.result in
    let k : ℕ = c.loop-place.place in
    let within : k < length pairs = subst (λ (ps : List Set). k < length ps) c.deref-pair-items.ensures.value c.loop-place-test.true in
    let is : s ≡ get_or pairs k s = c.pair-item.is ∙ ap (λ (ps : List Set). get_or ps k s) c.deref-pair-items.ensures.value in
    indexed_more pairs k s c.loop-place.names c.loop-place.places.items c.add_place.new.names c.add_place.new.places.items within is c.loop-place.invariant
    c.in_ok-add_place.ensures.long c.in_ok-add_place.ensures.own c.in_ok-add_place.ensures.others

pub invariant_of-result : goal.invariant_of-result
invariant_of-result c =
    let pairs = c.args.pairs.items in
    let k : ℕ = c.loop-place.place in
    let past : length pairs ≤ k = subst (λ (ps : List Set). length ps ≤ k) c.deref-pair-items.ensures.value c.loop-place-test.false in
    let at_most : k ≤ length pairs = subst (λ (ps : List Set). k ≤ length ps) c.deref-pair-items.ensures.value c.loop-place.auto.place-end in
    let end : k ≡ length pairs = omega arith in
    record { indexed = subst (λ (n : ℕ). IsIndexed pairs n c.loop-place.names c.loop-place.places.items) end c.loop-place.invariant }
