use Rattle.std.proofs.Common.{arith}
use Rattle.property_trie.proofs.stores.fresh_word.Goals as goal

pub put-requires-clause-may : goal.put-requires-clause-may
put-requires-clause-may g c = (
  c.requires.table.0,
  c.requires.place.0,
  rw c.requires.place.1 (g.met.R.TrieRule.fresh_word _ _ _ _ _ _ _ _ c.requires.adds.0 c.requires.adds.1 (omega arith)),
)
