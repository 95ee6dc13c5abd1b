use Rattle.property_trie.proofs.stores.property_link.Goals as goal

pub store-requires : goal.store-requires
store-requires g c = (
  c.requires.table,
  c.requires.link.0,
  rw c.requires.place (g.met.R.TrieRule.property_link _ _ _ _ _ _ _ _ c.requires.adds.0 c.requires.adds.1 c.requires.value.0 c.requires.value.1 c.requires.value.2 c.requires.link.1),
)
