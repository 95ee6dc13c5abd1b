use Rattle.property_trie.proofs.stores.interior_link.Goals as goal

pub store-requires : goal.store-requires
store-requires g c = (
  c.requires.table,
  c.requires.link.0,
  rw (c.requires.link.1, c.requires.place) (g.met.R.TrieRule.interior_link _ _ _ _ _ _ c.args.part.now c.requires.adds.0 c.requires.adds.1 c.requires.next),
)
