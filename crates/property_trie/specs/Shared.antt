-- What names have in common: how many of their dotted prefixes.
use Rattle.std.specs.Prelude.{ℕ, ◌+◌, ◌==◌, max, List, [], ◌∷◌, if◌then◌else◌}

-- how many dotted prefixes two names have in common: the dots in what they begin with alike, where a dot stands
-- behind each
abbrev pub shared : List ℕ → List ℕ → ℕ
shared [] [] = 1
shared [] (c ∷ other) = if c == 46 then 1 else 0
shared (b ∷ name) [] = if b == 46 then 1 else 0
shared (b ∷ name) (c ∷ other) = if b == c then (if b == 46 then 1 else 0) + shared name other else 0

-- the most that a name has in common with one of the names
abbrev pub shared_with : List (List ℕ) → List ℕ → ℕ
shared_with [] name = 0
shared_with (other ∷ rest) name = max (shared name other) (shared_with rest name)
