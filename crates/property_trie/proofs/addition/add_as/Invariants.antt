use Rattle.std.proofs.Common.{[]}
use Rattle.property_trie.specs.Additions.{linked_in}
use Rattle.property_trie.proofs.addition.add_as.Given as goal

abbrev pub ghosts-store_cell : goal.ghosts-store_cell
ghosts-store_cell g a =
    record { name = g.Q.Added.name; value = []; linked = linked_in (g.R.TrieRule.trie a.seat.now.me.0).adding; fresh = [] }

abbrev pub ghosts-property_link : goal.ghosts-property_link
ghosts-property_link g a =
    record { name = g.Q.Added.name; value = g.Q.Added.value; linked = linked_in (g.R.TrieRule.trie a.seat.now.me.0).adding; fresh = [] }
