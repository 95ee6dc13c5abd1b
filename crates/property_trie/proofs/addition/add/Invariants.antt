use Rattle.std.proofs.Common.{[]}
use Rattle.property_trie.proofs.addition.add.Given as goal

abbrev pub ghosts-add_as : goal.ghosts-add_as
ghosts-add_as g a = record { name = a.name.now; value = a.value.now; linked = 0; fresh = [] }
