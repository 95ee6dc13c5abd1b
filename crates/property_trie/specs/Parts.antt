-- The parts of a name, which are what stands between its dots (46 is the dot), and their order.
use Rattle.std.specs.Prelude.{ℕ, ◌+◌, ◌/◌, ◌==◌, List, [], ◌∷◌, drop, length, if◌then◌else◌}
use Rattle.std.specs.Cmp.Lexicographic.{slice_cmp}
use Rattle.std.specs.Ordering.{nat_cmp}
use Rattle.std.specs.declared.cmp.Ordering.{Ordering}
use Rattle.std.specs.declared.cmp.Ordering.TheVariants.{Less, Equal, Greater}

-- the byte in front of the first part
abbrev pub onto_first : ℕ → List (List ℕ) → List (List ℕ)
onto_first b [] = (b ∷ []) ∷ []
onto_first b (part ∷ parts) = (b ∷ part) ∷ parts

abbrev pub parts_of : List ℕ → List (List ℕ)
parts_of [] = [] ∷ []
parts_of (b ∷ rest) = let parts = parts_of rest in if b == 46 then [] ∷ parts else onto_first b parts

-- the parts behind the first part, which has n bytes
abbrev pub parts_behind : ℕ → List ℕ → List (List ℕ)
parts_behind n rest = if n == length rest then [] else parts_of (drop (n + 1) rest)

-- the first order decides, and where it is equal the second
abbrev pub first_order : Ordering → Ordering → Ordering
first_order Less second = Less
first_order Equal second = second
first_order Greater second = Greater

-- the order of siblings: by length first, and then by bytes
abbrev pub compare_parts : List ℕ → List ℕ → Ordering
compare_parts a b = first_order (nat_cmp (length a) (length b)) (slice_cmp nat_cmp a b)

-- the words of a part's node: five, and those of its bytes, eight to a word
abbrev pub node_size : List ℕ → ℕ
node_size part = 5 + (length part + 7) / 8
