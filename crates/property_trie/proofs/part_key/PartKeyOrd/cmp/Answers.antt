use Rattle.std.proofs.Common.{◌∙◌}
use Rattle.property_trie.specs.Parts.{compare_parts}
use Rattle.property_trie.proofs.Keys.{by_head}
use Rattle.property_trie.proofs.part_key.PartKeyOrd.cmp.Goals as goal

pub returns-then-self-other-2 : goal.returns-then-self-other-2
returns-then-self-other-2 c =
    let a = c.self.inside in
    let b = c.other.inside in
    c.cmp-then-self-other-2.ensures
    ∙ by_head a.text b.text a.len b.len a.head b.head c.self.invariant c.other.invariant c.if-self-other.false c.if-self-other-2.true
    ∙ (λ i. compare_parts (c.self.view_is i) (c.other.view_is i))
