use Rattle.std.proofs.Common.{[]}
use Rattle.property_trie.proofs.walk.find.Given as goal

abbrev pub ghosts-find_as : goal.ghosts-find_as
ghosts-find_as g a = record { name = a.name.now; rest = []; link = 0; index = 0 }
