-- Where the nodes and the cells of a tree lie.
use Rattle.std.specs.Prelude.{◌≡◌, ◌≢◌, ℕ, ◌+◌, ◌<◌, ◌≤◌, ◌⊎◌, List}
use Rattle.std.specs.declared.cmp.Ordering.{Ordering}
use Rattle.std.specs.declared.cmp.Ordering.TheVariants.{Less, Greater}
use Rattle.property_trie.specs.Parts.{compare_parts, node_size}
use Rattle.property_trie.specs.Tree.{Tree, Cell}
use Rattle.property_trie.specs.Tree.Tree.{leaf, node}

-- what a link to these siblings is: the place of the first node, 0 for none
abbrev pub link_to : Tree → ℕ
link_to leaf = 0
link_to (node place part left right children cell) = place

-- each of these siblings compares so with the part
abbrev pub EachSibling : Ordering → Tree → List ℕ → Type 0
EachSibling o leaf part = Unit {0}
EachSibling o (node place own left right children cell) part =
    (compare_parts own part ≡ o) × EachSibling o left part × EachSibling o right part

-- the siblings below each node, and at the top, are a binary search tree
abbrev pub IsOrdered : Tree → Type 0
IsOrdered leaf = Unit {0}
IsOrdered (node place part left right children cell) =
    EachSibling Less left part × EachSibling Greater right part × IsOrdered left × IsOrdered right × IsOrdered children

-- all nodes lie from this place on
abbrev pub LiesFrom : ℕ → Tree → Type 0
LiesFrom low leaf = Unit {0}
LiesFrom low (node place part left right children cell) =
    (low ≤ place) × LiesFrom low left × LiesFrom low right × LiesFrom low children

-- each link leads to a place above its node's
abbrev pub IsRising : Tree → Type 0
IsRising leaf = Unit {0}
IsRising (node place part left right children cell) =
    LiesFrom (place + 1) left × LiesFrom (place + 1) right × LiesFrom (place + 1) children
    × IsRising left × IsRising right × IsRising children

-- the word is one of a node or of a cell
abbrev pub InNode : ℕ → List ℕ → ℕ → Type 0
InNode place part word = (place ≤ word) × (word < place + node_size part)

abbrev pub InCell : Cell → ℕ → Type 0
InCell cell word = (0 < cell.place) × (cell.place ≤ word) × (word < cell.place + cell.words)

-- the word is one of the tree's nodes or cells
abbrev pub Takes : Tree → ℕ → Type 0
Takes leaf word = ⊥
Takes (node place part left right children cell) word =
    InNode place part word ⊎ (InCell cell word ⊎ (Takes left word ⊎ (Takes right word ⊎ Takes children word)))

-- no word is in both
abbrev pub Apart : (ℕ → Type 0) → (ℕ → Type 0) → Type 0
Apart P Q = (word : ℕ) → P word → Q word → ⊥

-- nodes and cells don't overlap
abbrev pub IsApart : Tree → Type 0
IsApart leaf = Unit {0}
IsApart (node place part left right children cell) =
    Apart (InNode place part) (InCell cell) × Apart (InNode place part) (Takes left)
    × Apart (InNode place part) (Takes right) × Apart (InNode place part) (Takes children)
    × Apart (InCell cell) (Takes left) × Apart (InCell cell) (Takes right) × Apart (InCell cell) (Takes children)
    × Apart (Takes left) (Takes right) × Apart (Takes left) (Takes children) × Apart (Takes right) (Takes children)
    × IsApart left × IsApart right × IsApart children

-- each cell has at least the words of a short one
abbrev pub HasWideCells : Tree → Type 0
HasWideCells leaf = Unit {0}
HasWideCells (node place part left right children cell) =
    (cell.place ≢ 0 → 13 ≤ cell.words) × HasWideCells left × HasWideCells right × HasWideCells children

-- What holds of where a trie lies: its nodes and cells are between word 16 and the mark, apart, and in order.
pub record LiesWell (tree : Tree) (mark : ℕ) : Type 0 where
  pub ordered : IsOrdered tree
  pub rising : IsRising tree
  pub within : (word : ℕ) → Takes tree word → (16 ≤ word) × (word < mark)
  pub apart : IsApart tree
  pub wide : HasWideCells tree
