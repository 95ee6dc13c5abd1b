-- Values of properties that are empty.
use Rattle.std.proofs.Common.{◌≡◌, ℕ, List, [], ◌∷◌, refl}
use Rattle.std.specs.Str.{bytes_eq}
use Rattle.init_machine.specs.Matches.{is_empty}

-- the empty text alone is equal to the empty text
pub equals_empty : (value : List ℕ) → bytes_eq value [] ≡ is_empty value
equals_empty [] = refl
equals_empty (byte ∷ rest) = refl
