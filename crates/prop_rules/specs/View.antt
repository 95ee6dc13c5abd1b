-- What the pairs of the build files give to a name where an import's path is expanded.
use Rattle.std.specs.Prelude.{ℕ, ◌&&◌, if◌then◌else◌, List, [], ◌∷◌, Option, Some, None}
use Rattle.std.specs.Str.{bytes_eq}
use Rattle.init_base.specs.Name.{is_legal_name}
use Rattle.init_base.specs.Value.{is_legal_value}
use Rattle.init_machine.specs.declared.config.Pair.{Pair}

-- a pair that was found, or else this one, where it has the name
abbrev pub found_or : Option Pair → Pair → List ℕ → Option Pair
found_or None p name = if bytes_eq p.name name then Some p else None
found_or (Some later) p name = Some later

-- the last pair of a name
abbrev pub last_pair : List Pair → List ℕ → Option Pair
last_pair [] name = None
last_pair (p ∷ later) name = found_or (last_pair later name) p name

abbrev pub legal_value_of : Option Pair → Option (List ℕ)
legal_value_of None = None
legal_value_of (Some p) = if is_legal_name p.name && is_legal_value p.name p.value then Some p.value else None

-- The value of a name in the view of the pairs: that of its last pair, where that pair's name and value are legal. Where
-- they aren't, the name is absent, and an earlier pair doesn't come back.
abbrev pub view : List Pair → List ℕ → Option (List ℕ)
view pairs name = legal_value_of (last_pair pairs name)
