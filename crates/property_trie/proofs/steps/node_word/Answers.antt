use Rattle.property_trie.proofs.steps.node_word.Goals as goal

pub load-requires : goal.load-requires
load-requires g c = (c.requires.table, c.requires.place.0, rw (← c.requires.place.2) (g.met.R.TrieRule.node_word _ _ _ _ _ _ c.requires.stands.0 c.requires.stands.1 c.requires.k))
