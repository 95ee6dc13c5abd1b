use Rattle.std.proofs.Common.{◌≡◌, ◌+◌, ◌-◌, ◌<◌, ◌≤◌, ℕ, List, true, length, sym, ap, arith}
use Rattle.init_machine.specs.Sets.{Numbered, Set}
use Rattle.trace_audit.proofs.Values.{numbered_at, number_within, numbered_is}
use Rattle.trace_audit.proofs.facts.numbered.Goals as goal

pub returns-then-not-is_within : goal.returns-then-not-is_within
returns-then-not-is_within c =
    λ (value : List ℕ) (n : Numbered c.args.sets.now.pairs.items c.args.number c.args.name.now value).
    let yes : c.is_within.result ≡ true = c.is_within.ensures.1 (number_within c.args.sets.now.pairs.items c.args.number c.args.name.now value n) in
    let impossible : ⊥ = cc in impossible

pub returns-then-not-same : goal.returns-then-not-same
returns-then-not-same c =
    λ (value : List ℕ) (n : Numbered c.args.sets.now.pairs.items c.args.number c.args.name.now value).
    let k : ℕ = c.args.number - 1 in
    let above : 0 < c.args.number = omega arith in
    let next : c.args.number ≡ k + 1 = omega arith in
    let is : (c.args.name.now, value) ≡ c.index.result.now =
    numbered_is c.args.sets.now.pairs.items c.args.number k c.args.name.now value c.index.result.now next c.index.ensures n in
    let yes : c.same.result ≡ true = c.same.ensures.1 (sym (ap (λ (s : Set). s.0) is)) in
    let impossible : ⊥ = cc in impossible

pub returns : goal.returns
returns c =
    let k : ℕ = c.args.number - 1 in
    let above : 0 < c.args.number = omega arith in
    let next : c.args.number ≡ k + 1 = omega arith in
    let at_most : c.args.number ≤ length c.args.sets.now.pairs.items = c.is_within.ensures.0 c.if-not-is_within.false in
    let within : k < length c.args.sets.now.pairs.items = omega arith in
    numbered_at c.args.sets.now.pairs.items c.args.number k c.args.name.now c.index.result.now next within c.index.ensures
    (c.same.ensures.0 c.if-not-same.false)
