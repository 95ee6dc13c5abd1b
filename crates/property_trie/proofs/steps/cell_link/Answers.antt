use Rattle.property_trie.proofs.steps.cell_link.Goals as goal

pub load-requires : goal.load-requires
load-requires g c = (c.requires.link.0, c.requires.link.1, rw c.requires.link.2 (g.met.R.TrieRule.cell_link _ _ _ _ _ _ c.requires.comes))
