-- The trie of names as plain data: below each node, and at the top, the siblings form a binary search tree.
use Rattle.std.specs.Prelude.{◌≡◌, ◌≢◌, ℕ, zero, suc, ◌+◌, ◌==◌, List, [], ◌∷◌, ◌++◌, length, drop, if◌then◌else◌}
use Rattle.std.specs.declared.cmp.Ordering.{Ordering}
use Rattle.std.specs.declared.cmp.Ordering.TheVariants.{Less, Equal, Greater}
use Rattle.init_machine.specs.Words.{is_among, Sized, names_in, cell_words}
use Rattle.property_trie.specs.Parts.{parts_of, compare_parts, node_size}

-- where a property's cell lies, 0 for none, and how many words it has. A short cell's value may change, and its words stay; a
-- long cell's value never changes. So the words are those of the first value, for as long as there is the cell.
pub record Cell : Type 0 where
  pub place : ℕ
  pub words : ℕ

abbrev pub no_cell : Cell
no_cell = record { place = 0; words = 0 }

-- no siblings; or a node: its place, its part, the siblings before and behind it, its children, and its property's cell
pub data Tree : Type 0 where
  leaf : Tree
  node : (place : ℕ) (part : List ℕ) (left right children : Tree) (cell : Cell) → Tree

-- what stands for an order
abbrev pub by_order {ℓ} : {A : Type ℓ} → Ordering → A → A → A → A
by_order Less less equal greater = less
by_order Equal less equal greater = equal
by_order Greater less equal greater = greater

-- how many parts two names begin with alike
abbrev pub alike : List (List ℕ) → List (List ℕ) → ℕ
alike [] others = 0
alike (part ∷ parts) [] = 0
alike (part ∷ parts) (other ∷ others) = by_order (compare_parts other part) 0 (1 + alike parts others) 0

-- one thing at the last part, and another where parts are left
abbrev pub at_last {ℓ} : {A : Type ℓ} → List (List ℕ) → A → A → A
at_last [] last more = last
at_last (part ∷ parts) last more = more

-- the cell of the property with these parts
abbrev pub cell_in : Tree → List (List ℕ) → Cell
cell_in leaf parts = no_cell
cell_in (node place part left right children cell) [] = no_cell
cell_in (node place part left right children cell) (p ∷ ps) =
    by_order (compare_parts p part) (cell_in left (p ∷ ps)) (at_last ps cell (cell_in children ps)) (cell_in right (p ∷ ps))

-- and its place, 0 for none
abbrev pub find : Tree → List (List ℕ) → ℕ
find tree parts = (cell_in tree parts).place

-- how many of the parts have nodes
abbrev pub depth : Tree → List (List ℕ) → ℕ
depth leaf parts = 0
depth (node place part left right children cell) [] = 0
depth (node place part left right children cell) (p ∷ ps) =
    by_order (compare_parts p part) (depth left (p ∷ ps)) (1 + depth children ps) (depth right (p ∷ ps))

-- nodes for the first n of the parts, one below the other, from this place on
abbrev pub chain : ℕ → List (List ℕ) → ℕ → Tree
chain n [] place = leaf
chain zero (p ∷ ps) place = leaf
chain (suc n) (p ∷ ps) place = node place p leaf leaf (chain n ps (place + node_size p)) no_cell

-- the tree with nodes for the first n of those of the parts that have none, from this place on
abbrev pub grown : ℕ → Tree → List (List ℕ) → ℕ → Tree
grown n leaf parts place = chain n parts place
grown n (node at part left right children cell) [] place = node at part left right children cell
grown n (node at part left right children cell) (p ∷ ps) place =
    by_order (compare_parts p part)
    (node at part (grown n left (p ∷ ps) place) right children cell)
    (node at part left right (grown n children ps place) cell)
    (node at part left (grown n right (p ∷ ps) place) children cell)

-- the tree with this cell for the property with these parts
abbrev pub with_cell : Tree → List (List ℕ) → Cell → Tree
with_cell leaf parts new = leaf
with_cell (node at part left right children cell) [] new = node at part left right children cell
with_cell (node at part left right children cell) (p ∷ ps) new =
    by_order (compare_parts p part)
    (node at part (with_cell left (p ∷ ps) new) right children cell)
    (at_last ps (node at part left right children new) (node at part left right (with_cell children ps new) cell))
    (node at part left (with_cell right (p ∷ ps) new) children cell)

-- all that is in a tree is still so in a later one
abbrev pub Extends : Tree → Tree → Type 0
Extends leaf later = Unit {0}
Extends (node place part left right children cell) leaf = ⊥
Extends (node place part left right children cell) (node place' part' left' right' children' cell') =
    (place' ≡ place) × (part' ≡ part) × Extends left left' × Extends right right' × Extends children children'
    × (cell.place ≢ 0 → cell' ≡ cell)

-- the words of the nodes of these parts
abbrev pub node_sizes : List (List ℕ) → ℕ
node_sizes [] = 0
node_sizes (part ∷ parts) = node_size part + node_sizes parts

-- a tree, and the first free word
pub record Trie : Type 0 where
  pub tree : Tree
  pub mark : ℕ

-- where the cell of a new property comes to lie: behind its new nodes
abbrev pub cell_place : Trie → List (List ℕ) → ℕ
cell_place trie parts = trie.mark + node_sizes (drop (depth trie.tree parts) parts)

-- the trie with a new property: its missing nodes, from the first part on, and its cell of so many words
abbrev pub with_property : Trie → List (List ℕ) → ℕ → Trie
with_property trie parts words = record {
  tree = with_cell (grown (length parts) trie.tree parts trie.mark) parts (record { place = cell_place trie parts; words = words });
  mark = cell_place trie parts + words;
}

-- the trie once the name is in it, whose first value has so many bytes
abbrev pub added : Trie → Sized → Trie
added trie sized = let parts = parts_of sized.0 in if find trie.tree parts == 0 then with_property trie parts (cell_words sized.1) else trie

abbrev pub trie_from : Trie → List Sized → Trie
trie_from trie [] = trie
trie_from trie (sized ∷ more) = trie_from (added trie sized) more

-- the trie of names with the lengths of their values, in the order of their sets: of a name that is set again the first counts
abbrev pub trie_of : List Sized → Trie
trie_of sized = trie_from (record { tree = leaf; mark = 16 }) sized

-- each of these names once, at its first place, behind those that are there
abbrev pub each_once_from : List Sized → List Sized → List Sized
each_once_from held [] = held
each_once_from held (s ∷ sized) = each_once_from (if is_among (names_in held) s.0 then held else held ++ s ∷ []) sized

abbrev pub each_once : List Sized → List Sized
each_once sized = each_once_from [] sized
