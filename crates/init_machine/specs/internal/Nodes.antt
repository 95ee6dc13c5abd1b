-- The nodes of a name: which of them the known ones lack.
use Rattle.std.specs.Prelude.{◌≡◌, ℕ, ◌+◌, List, [], ◌∷◌, if◌then◌else◌}
use Rattle.init_machine.specs.Words.{is_among, node_words}

-- the sum over those of xs that are not among the known ones
abbrev pub total_beyond : (List ℕ → ℕ) → List (List ℕ) → List (List ℕ) → ℕ
total_beyond w known [] = 0
total_beyond w known (x ∷ xs) = (if is_among known x then 0 else w x) + total_beyond w known xs

-- the words of the nodes of prefixes that are not among the known ones
abbrev pub words_beyond : List (List ℕ) → List (List ℕ) → ℕ
words_beyond known prefixes = total_beyond node_words known prefixes

-- the same members
abbrev pub SameMembers : List (List ℕ) → List (List ℕ) → Type 0
SameMembers xs ys = (z : List ℕ) → is_among xs z ≡ is_among ys z
