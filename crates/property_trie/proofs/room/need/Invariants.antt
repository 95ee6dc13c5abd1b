use Rattle.std.proofs.Common.{[]}
use Rattle.property_trie.proofs.room.need.Given as goal

abbrev pub ghosts-need_as : goal.ghosts-need_as
ghosts-need_as g a = record { name = a.name.now; rest = []; link = 0; index = 0 }
