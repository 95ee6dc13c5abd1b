-- The set has the same members.
use Rattle.std.proofs.Common.{ap, ◌∙◌, eqb}
use Rattle.std.specs.List.{list_any}
use Rattle.collections.proofs.Held.{members_same}
use Rattle.collections.proofs.agenda.in_order.Goals as goal

pub returns-clause-numbers : goal.returns-clause-numbers
returns-clause-numbers c = λ n.
    ap (list_any (eqb n)) c.in_ok-sorted.ensures.list ∙ members_same n c.in_ok-set.set.keys c.args.numbers.items (c.in_ok-set.ensures.0 n)
