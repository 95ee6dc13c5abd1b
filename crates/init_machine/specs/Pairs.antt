-- Pairs of a name and a value: the environment, and the saved properties.
use Rattle.std.specs.Prelude.{ℕ, Bool, true, false, ◌&&◌, ◌||◌, ◌==◌, not, nat_lt, List, [], ◌∷◌, filter, if◌then◌else◌}
use Rattle.std.specs.Str.{bytes_eq}
use Rattle.init_machine.specs.declared.config.Pair.{Pair}

abbrev pub pair : List ℕ → List ℕ → Pair
pair name value = record { name = name; value = value }

-- whether one text stands before another in the order of bytes
abbrev pub is_before : List ℕ → List ℕ → Bool
is_before [] [] = false
is_before [] (c ∷ cs) = true
is_before (b ∷ bs) [] = false
is_before (b ∷ bs) (c ∷ cs) = nat_lt b c || (b == c && is_before bs cs)

-- the value of a name is replaced, or the pair joins the end
abbrev pub with_variable : List Pair → List ℕ → List ℕ → List Pair
with_variable [] name value = pair name value ∷ []
with_variable (p ∷ rest) name value = if bytes_eq p.name name then pair name value ∷ rest else p ∷ with_variable rest name value

-- the value of a name is replaced, or the pair goes to its place in ascending order of names
abbrev pub with_saved : List Pair → List ℕ → List ℕ → List Pair
with_saved [] name value = pair name value ∷ []
with_saved (p ∷ rest) name value =
    if bytes_eq p.name name then pair name value ∷ rest
    else if is_before name p.name then pair name value ∷ p ∷ rest
    else p ∷ with_saved rest name value

abbrev pub without_name : List Pair → List ℕ → List Pair
without_name pairs name = filter (λ p. not (bytes_eq p.name name)) pairs

-- pairs one after another put into a list that ascends; a later one takes the place of an earlier one
abbrev pub last_pairs_onto : List Pair → List Pair → List Pair
last_pairs_onto sorted [] = sorted
last_pairs_onto sorted (p ∷ rest) = last_pairs_onto (with_saved sorted p.name p.value) rest

-- the last pair of each name, in ascending order of names
abbrev pub last_pairs : List Pair → List Pair
last_pairs pairs = last_pairs_onto [] pairs
