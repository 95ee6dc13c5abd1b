use Rattle.std.proofs.Common.{◌≡◌, ◌≤◌, ℕ, true, false, length, subst, arith}
use Rattle.init_machine.specs.Sets.{NoneBetween}
use Rattle.trace_audit.proofs.Values.{later_none, later_past}
use Rattle.trace_audit.proofs.facts.has_later.Goals as goal

pub returns-then-is_within-clause-none : goal.returns-then-is_within-clause-none
returns-then-is_within-clause-none c =
    let end : c.len.result ≡ length c.args.sets.now.pairs.items = omega (arith, c.args.sets.now.pairs.ok.0) in
    λ (none : c.has_between.result ≡ false). later_none c.args.sets.now.pairs.items c.args.name.now c.args.low
    (subst (λ (high : ℕ). NoneBetween c.args.sets.now.pairs.items c.args.name.now c.args.low high) end (c.has_between.ensures.none none))

pub returns-else-is_within-clause-none : goal.returns-else-is_within-clause-none
returns-else-is_within-clause-none c =
    λ (past : c.is_within.result ≡ false).
    later_past c.args.sets.now.pairs.items c.args.name.now c.args.low
    (λ (within : c.args.low ≤ length c.args.sets.now.pairs.items). let yes : c.is_within.result ≡ true = c.is_within.ensures.1 within in let impossible : ⊥ = cc in impossible)
