use Rattle.property_trie.proofs.steps.node_length.Goals as goal

pub load-requires : goal.load-requires
load-requires g c = (c.requires.table, c.requires.place, g.met.R.TrieRule.node_length _ _ _ _ _ c.requires.stands.0 c.requires.stands.1)
