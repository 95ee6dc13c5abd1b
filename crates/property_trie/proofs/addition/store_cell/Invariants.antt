use Rattle.std.proofs.Common.{[]}
use Rattle.property_trie.specs.Additions.{fresh_in, first_words, new_cell_word}
use Rattle.property_trie.proofs.Additional.{Stores}
use Rattle.property_trie.proofs.addition.store_cell.Given as goal

abbrev pub invariant-loop-k : goal.invariant-loop-k
invariant-loop-k g l =
    let stored = first_words (new_cell_word l.number l.value) l.k in
    Stores g.R.TrieRule.trie g.R.TrieRule.with_trie l.initial.seat l.seat g.Q.Added.name g.Q.Added.linked stored

abbrev pub ghosts-fresh_word : goal.ghosts-fresh_word
ghosts-fresh_word g a =
    record { name = g.Q.Added.name; value = []; linked = g.Q.Added.linked; fresh = fresh_in (g.R.TrieRule.trie a.seat.now.me.0).adding }
