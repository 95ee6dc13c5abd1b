-- The order in which the files of a directory are read.
use Rattle.std.specs.Prelude.{ℕ, Bool, if◌then◌else◌, List, [], ◌∷◌}
use Rattle.std.specs.Cmp.Lexicographic.{slice_cmp}
use Rattle.std.specs.Ordering.{is_lt, nat_cmp}

-- whether one name stands before another in the order of bytes
abbrev pub is_before : List ℕ → List ℕ → Bool
is_before one other = is_lt (slice_cmp nat_cmp one other)

-- a name goes before the first one that doesn't stand before it
abbrev pub put_in_order : List ℕ → List (List ℕ) → List (List ℕ)
put_in_order name [] = name ∷ []
put_in_order name (other ∷ rest) = if is_before other name then other ∷ put_in_order name rest else name ∷ other ∷ rest

-- names in the order of their bytes
abbrev pub in_byte_order : List (List ℕ) → List (List ℕ)
in_byte_order [] = []
in_byte_order (name ∷ rest) = put_in_order name (in_byte_order rest)
