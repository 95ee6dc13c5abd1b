use Rattle.std.proofs.Common.{[]}
use Rattle.property_trie.proofs.lacking.search_absent.Given as goal

abbrev pub ghosts-search : goal.ghosts-search
ghosts-search g a = record { name = g.Q.Added.name; rest = []; link = 0; index = 0 }
