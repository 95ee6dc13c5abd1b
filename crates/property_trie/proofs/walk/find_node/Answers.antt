use Rattle.std.proofs.Common.{sym, ◌∙◌, ap, take}
use Rattle.property_trie.specs.Parts.{compare_parts, parts_behind}
use Rattle.property_trie.specs.TrieSteps.{part_at}
use Rattle.property_trie.proofs.Orders.{same_part}
use Rattle.property_trie.proofs.Walking.{at_first, trie_standing}
use Rattle.property_trie.proofs.walk.find_node.Goals as goal

pub returns-in-Equal-clause-ends : goal.returns-in-Equal-clause-ends
returns-in-Equal-clause-ends g c =
    let R = g.R.TrieRule in
    let L = g.met.R.TrieRule in
    let v = c.args.seat.now.me.0 in
    let m = c.siblings.seat.me.0 in
    let w = c.followed_link-place.new.seat.me.0 in
    let rest = g.Q.Sought.rest in
    let place = c.followed_link-place.result in
    let told = c.followed_link-place.ensures.told.some c.if-place-eq0.false in
    let p = take c.args.len c.args.rest.now in
    let stood = trie_standing g.R.CellRule.cell R.trie R.with_trie g.R.CellRule.noted L.trie_with L.trie_twice L.cell_beside m w g.Q.Sought.name rest place told.0 told.3 in
    let compared = c.compare_with_node-order.ensures.order ∙ ap (λ t. compare_parts p (part_at t.trail)) stood in
    let same = same_part p told.0 (sym compared ∙ c.in-Equal.is) in
    let walked = c.siblings.invariant.walk.walked in
    let ends = at_first g.R.CellRule.cell R.trie R.with_trie L.trie_with L.trie_twice L.cell_beside g.R.CellRule.noted v m w (g.R.CellRule.words v) (g.R.CellRule.words m) g.Q.Sought.name rest place told.0 p
    (parts_behind c.args.len c.args.rest.now) walked told.3 (ap g.R.CellRule.words walked.is ∙ L.words_stay v _) told.2 (sym c.requires.rest.0 ∙ c.requires.first) same in
    (ends.0, ap (λ x. x.0) c.compare_with_node-order.ensures.seat.1 ∙ ends.1)
