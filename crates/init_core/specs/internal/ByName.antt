-- The pairs of a map from names to values.
use Rattle.std.specs.Prelude.{ℕ, List, map}
use Rattle.std.specs.declared.alloc.Global.{Global}
use Rattle.std.specs.declared.vec.Vec.{Vec}
use Rattle.init_machine.specs.Pairs.{pair}
use Rattle.init_machine.specs.declared.config.Pair.{Pair}

abbrev pub pair_of : Vec ℕ Global × List ℕ → Pair
pair_of entry = pair entry.0.items entry.1

abbrev pub pairs_in : List (Vec ℕ Global × List ℕ) → List Pair
pairs_in entries = map pair_of entries
