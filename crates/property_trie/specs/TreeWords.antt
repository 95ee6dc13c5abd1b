-- How a tree lies in words: a node is the length of its part, the links to the siblings before and behind it, to its children
-- and to its property, and the words of its part.
use Rattle.std.specs.Prelude.{◌≡◌, ℕ, ◌+◌, ◌/◌, ◌<◌, List, [], ◌∷◌, length, slice_index}
use Rattle.std.specs.Int.{w64, swap_bytes}
use Rattle.std.specs.Ordering.{nat_cmp}
use Rattle.std.specs.declared.cmp.Ordering.{Ordering}
use Rattle.serial_value.specs.Words.{text_word}
use Rattle.property_trie.specs.Parts.{compare_parts}
use Rattle.property_trie.specs.Tree.{Tree, by_order, at_last}
use Rattle.property_trie.specs.Tree.Tree.{leaf, node}
use Rattle.property_trie.specs.Places.{link_to}

-- the order of two words by their bytes, of which the first is the lowest
unfoldable pub word_order : ℕ → ℕ → Ordering
word_order a b = nat_cmp (swap_bytes w64 a) (swap_bytes w64 b)

-- the words of a node's part
abbrev pub part_words : List ℕ → ℕ
part_words part = (length part + 7) / 8

pub record NodeHolds (words : List ℕ) (place : ℕ) (part : List ℕ) (left right children cell : ℕ) : Type 0 where
  pub length_is : slice_index words place ≡ length part
  pub left_is : slice_index words (place + 1) ≡ left
  pub right_is : slice_index words (place + 2) ≡ right
  pub children_is : slice_index words (place + 3) ≡ children
  pub cell_is : slice_index words (place + 4) ≡ cell
  pub part_is : (k : ℕ) → k < part_words part → slice_index words (place + 5 + k) ≡ text_word part k

-- the words spell the nodes of the tree
abbrev pub TreeHolds : List ℕ → Tree → Type 0
TreeHolds words leaf = Unit {0}
TreeHolds words (node place part left right children cell) =
    NodeHolds words place part (link_to left) (link_to right) (link_to children) cell.place
    × TreeHolds words left × TreeHolds words right × TreeHolds words children

-- the words spell the trie: word 1 is the link to its first level
pub record TrieHolds (words : List ℕ) (tree : Tree) : Type 0 where
  pub top : slice_index words 1 ≡ link_to tree
  pub nodes : TreeHolds words tree

-- where the link stands that the walk to the first missing node of the parts ends at, where the walk begins at the link `top`
abbrev pub link_at : ℕ → Tree → List (List ℕ) → ℕ
link_at top leaf parts = top
link_at top (node place part left right children cell) [] = top
link_at top (node place part left right children cell) (p ∷ ps) =
    by_order (compare_parts p part) (link_at (place + 1) left (p ∷ ps)) (link_at (place + 3) children ps) (link_at (place + 2) right (p ∷ ps))

-- where the link to the property with these parts stands, 0 where not all parts have nodes
abbrev pub property_link_at : Tree → List (List ℕ) → ℕ
property_link_at leaf parts = 0
property_link_at (node place part left right children cell) [] = 0
property_link_at (node place part left right children cell) (p ∷ ps) =
    by_order (compare_parts p part) (property_link_at left (p ∷ ps)) (at_last ps (place + 4) (property_link_at children ps)) (property_link_at right (p ∷ ps))

-- the first of the parts that has no node
abbrev pub missing_part : Tree → List (List ℕ) → List ℕ
missing_part leaf [] = []
missing_part leaf (p ∷ ps) = p
missing_part (node place part left right children cell) [] = []
missing_part (node place part left right children cell) (p ∷ ps) =
    by_order (compare_parts p part) (missing_part left (p ∷ ps)) (missing_part children ps) (missing_part right (p ∷ ps))
