-- A walk that ends where no line's name is longer.
use Rattle.std.proofs.Common.{ℕ, Bor, List, [], subst}
use Rattle.init_machine.specs.Policy.{ContextLine}
use Rattle.prop_contexts.specs.Lengths.{HaveLengths}
use Rattle.prop_contexts.specs.Walks.{IsWalked}
use Rattle.prop_contexts.proofs.Lengths.{walked_on}
use Rattle.prop_contexts.proofs.names.Names.walk.Goals as goal

pub returns-clause-walked : goal.returns-clause-walked
returns-clause-walked c =
    let walked = c.walk_over-walked.result in
    let front : IsWalked c.args.self.now c.split_at.result.0.now walked.digest [] walked.front =
    subst (λ (seen : Bor (List ℕ)). IsWalked c.args.self.now seen.now walked.digest [] walked.front) c.walk_over-walked.ensures.name c.walk_over-walked.ensures.walked in
    walked_on c.args.self.now c.self.inside.lengths c.args.name.now c.split_at.result.0.now c.split_at.result.1.now walked.digest walked.front
    (subst (λ (lines : List ContextLine). HaveLengths lines c.self.inside.lengths) c.self.view_is c.self.invariant.1)
    c.split_at.ensures.by_index.0 c.split_at.ensures.front_len front
