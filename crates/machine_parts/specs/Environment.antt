-- The variables of the environment, from the entries that hold them.
use Rattle.std.specs.Prelude.{ℕ, List, map}
use Rattle.init_machine.specs.Pairs.{pair}
use Rattle.init_machine.specs.declared.config.Pair.{Pair}

abbrev pub variable : List ℕ × List ℕ → Pair
variable entry = pair entry.0 entry.1

abbrev pub variables : List (List ℕ × List ℕ) → List Pair
variables entries = map variable entries
