-- The walk of a reader for the parts of a name: at each node it goes to the siblings before or behind it, or down to the
-- children of the equal one.
use Rattle.std.specs.Prelude.{◌≡◌, ℕ, ◌+◌, ◌⊎◌, List, [], ◌∷◌}
use Rattle.property_trie.specs.Parts.{compare_parts}
use Rattle.property_trie.specs.Tree.{Tree, by_order, at_last}
use Rattle.property_trie.specs.Tree.Tree.{leaf, node}

-- the walk that begins at the link `top`, for these parts, comes to the link at `link` with these parts left
abbrev pub WalksTo : Tree → ℕ → List (List ℕ) → ℕ → List (List ℕ) → Type 0
WalksTo leaf top parts link rest = (link ≡ top) × (rest ≡ parts)
WalksTo (node place part left right children cell) top [] link rest = (link ≡ top) × (rest ≡ [])
WalksTo (node place part left right children cell) top (p ∷ ps) link rest =
    ((link ≡ top) × (rest ≡ p ∷ ps))
    ⊎ by_order (compare_parts p part)
    (WalksTo left (place + 1) (p ∷ ps) link rest)
    (at_last ps ⊥ (WalksTo children (place + 3) ps link rest))
    (WalksTo right (place + 2) (p ∷ ps) link rest)

-- the walk stands at the node at this place, of this part, with these parts left
abbrev pub Stands : Tree → List (List ℕ) → ℕ → List ℕ → List (List ℕ) → Type 0
Stands leaf parts at own rest = ⊥
Stands (node place part left right children cell) [] at own rest = ⊥
Stands (node place part left right children cell) (p ∷ ps) at own rest =
    ((at ≡ place) × (own ≡ part) × (rest ≡ p ∷ ps))
    ⊎ by_order (compare_parts p part)
    (Stands left (p ∷ ps) at own rest)
    (at_last ps ⊥ (Stands children ps at own rest))
    (Stands right (p ∷ ps) at own rest)

-- the walk ends at the node of the last part, which has its property's link at this place
abbrev pub EndsAt : Tree → List (List ℕ) → ℕ → Type 0
EndsAt leaf parts link = ⊥
EndsAt (node place part left right children cell) [] link = ⊥
EndsAt (node place part left right children cell) (p ∷ ps) link =
    by_order (compare_parts p part) (EndsAt left (p ∷ ps) link) (at_last ps (link ≡ place + 4) (EndsAt children ps link)) (EndsAt right (p ∷ ps) link)
