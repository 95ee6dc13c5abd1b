use Rattle.std.proofs.Common.{[], ◌∷◌, ◌++◌}
use Rattle.property_trie.specs.Additions.{adding}
use Rattle.property_trie.proofs.stores.fresh_word.Given as goal

abbrev pub ghosts-put : goal.ghosts-put
ghosts-put g a = record {
  word = a.word;
  next = λ m. (g.R.TrieRule.with_trie m.0 (adding (g.R.TrieRule.trie m.0) g.Q.Added.name g.Q.Added.linked (g.Q.Added.fresh ++ a.word ∷ [])), m.1);
}
