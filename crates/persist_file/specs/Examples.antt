-- Worked examples of the store's text.
use Rattle.std.specs.Prelude.{List, [], ◌∷◌, ◌++◌, codes}
use Rattle.init_machine.specs.Pairs.{pair}
use Rattle.init_machine.specs.declared.config.Pair.{Pair}
use Rattle.persist_file.specs.Store.{ended, IsStore}

abbrev pub first_pair : Pair
first_pair = pair (codes "persist.a") (codes "10")

abbrev pub second_pair : Pair
second_pair = pair (codes "persist.b") []

abbrev pub two_pairs : List Pair
two_pairs = first_pair ∷ second_pair ∷ []

abbrev pub TwoPairsAreRead : Type 0
TwoPairsAreRead = IsStore (ended (codes "persist 1") ++ ended (codes "persist.a 3130") ++ ended (codes "persist.b -")) two_pairs

abbrev pub TypedPairsAreRead : Type 0
TypedPairsAreRead = IsStore (ended (codes "persist 2") ++ ended (codes "persist.a int 10") ++ ended (codes "persist.b any %")) two_pairs
