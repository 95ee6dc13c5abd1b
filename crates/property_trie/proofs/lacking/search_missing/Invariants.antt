use Rattle.std.proofs.Common.{[]}
use Rattle.property_trie.proofs.lacking.search_missing.Given as goal

abbrev pub ghosts-search_absent : goal.ghosts-search_absent
ghosts-search_absent g a = record { name = a.name.now; value = []; linked = 0; fresh = [] }
