-- Cells are apart from nodes and from each other, and a link to a new cell is that cell.
use Rattle.std.proofs.Common.{◌≡◌, ℕ, ◌+◌, ◌<◌, ◌⊎◌, List, [], ◌∷◌, length, get_or, set, sym, refl, ap, ◌∙◌, subst, inl, inr, ⊎_elim, arith, get_or-set_other, get_or-set_same}
use Rattle.std.specs.declared.cmp.Ordering.{Ordering}
use Rattle.std.specs.declared.cmp.Ordering.TheVariants.{Less, Equal, Greater}
use Rattle.property_trie.specs.Parts.{compare_parts}
use Rattle.property_trie.specs.Tree.{Tree, Cell, no_cell, by_order, at_last, cell_in, with_cell}
use Rattle.property_trie.specs.Tree.Tree.{leaf, node}
use Rattle.property_trie.specs.Places.{link_to, InCell, Takes, IsApart}
use Rattle.property_trie.specs.TreeWords.{NodeHolds, TreeHolds}
use Rattle.property_trie.specs.Walk.{EndsAt}
use Rattle.property_trie.proofs.Orders.{same_part, by_cases}
use Rattle.property_trie.proofs.Frames.{InNodes, nodes_take, node_else, tree_else}

abbrev Parts : Type 0
Parts = List (List ℕ)

in_chosen : (o : Ordering) (a b c : Cell) (word : ℕ) → InCell (by_order o a b c) word → ((o ≡ Less) × InCell a word) ⊎ (((o ≡ Equal) × InCell b word) ⊎ ((o ≡ Greater) × InCell c word))
in_chosen Less a b c word is = inl (refl, is)
in_chosen Equal a b c word is = inr (inl (refl, is))
in_chosen Greater a b c word is = inr (inr (refl, is))

none_in : (word : ℕ) → InCell no_cell word → ⊥
none_in word is = let a = is.0 in omega arith

-- the words of a cell that is found are the tree's
pub found_takes : (t : Tree) (ps : Parts) (word : ℕ) → InCell (cell_in t ps) word → Takes t word
found_takes leaf ps word is = absurd (none_in word is)
found_takes (node at part l r c cell) [] word is = absurd (none_in word is)
found_takes (node at part l r c cell) (p ∷ []) word is = ⊎_elim
    (λ (t : (compare_parts p part ≡ Less) × InCell (cell_in l (p ∷ [])) word). inr (inr (inl (found_takes l (p ∷ []) word t.1))))
    (λ other. ⊎_elim
    (λ (t : (compare_parts p part ≡ Equal) × InCell cell word). inr (inl t.1))
    (λ (t : (compare_parts p part ≡ Greater) × InCell (cell_in r (p ∷ [])) word). inr (inr (inr (inl (found_takes r (p ∷ []) word t.1)))))
    other)
    (in_chosen (compare_parts p part) (cell_in l (p ∷ [])) cell (cell_in r (p ∷ [])) word is)
found_takes (node at part l r c cell) (p ∷ y ∷ ys) word is = ⊎_elim
    (λ (t : (compare_parts p part ≡ Less) × InCell (cell_in l (p ∷ y ∷ ys)) word). inr (inr (inl (found_takes l (p ∷ y ∷ ys) word t.1))))
    (λ other. ⊎_elim
    (λ (t : (compare_parts p part ≡ Equal) × InCell (cell_in c (y ∷ ys)) word). inr (inr (inr (inr (found_takes c (y ∷ ys) word t.1)))))
    (λ (t : (compare_parts p part ≡ Greater) × InCell (cell_in r (p ∷ y ∷ ys)) word). inr (inr (inr (inl (found_takes r (p ∷ y ∷ ys) word t.1)))))
    other)
    (in_chosen (compare_parts p part) (cell_in l (p ∷ y ∷ ys)) (cell_in c (y ∷ ys)) (cell_in r (p ∷ y ∷ ys)) word is)

-- where in a tree a cell is found
abbrev Within : ℕ → List ℕ → Tree → Tree → Tree → Cell → Parts → ℕ → Type 0
Within at part l r c cell [] word = ⊥
Within at part l r c cell (p ∷ ps) word =
    ((compare_parts p part ≡ Less) × InCell (cell_in l (p ∷ ps)) word)
    ⊎ (((compare_parts p part ≡ Equal) × InCell (at_last ps cell (cell_in c ps)) word)
    ⊎ ((compare_parts p part ≡ Greater) × InCell (cell_in r (p ∷ ps)) word))

-- no word of a cell is a node's
pub cell_no_node : (t : Tree) (ps : Parts) (word : ℕ) → IsApart t → InCell (cell_in t ps) word → InNodes t word → ⊥
cell_no_node leaf ps word h is in_node = in_node
cell_no_node (node at part l r c cell) [] word h is in_node = none_in word is
cell_no_node (node at part l r c cell) (p ∷ []) word h is in_node = ⊎_elim
    (λ (t : (compare_parts p part ≡ Less) × InCell (cell_in l (p ∷ [])) word). let taken = found_takes l (p ∷ []) word t.1 in
    ⊎_elim (λ own. h.1 word own taken) (λ a. ⊎_elim (λ left. cell_no_node l (p ∷ []) word h.10 t.1 left) (λ b. ⊎_elim (λ right. h.7 word taken (nodes_take r word right)) (λ children. h.8 word taken (nodes_take c word children)) b) a) in_node)
    (λ other. ⊎_elim
    (λ (t : (compare_parts p part ≡ Equal) × InCell cell word).
    ⊎_elim (λ own. h.0 word own t.1) (λ a. ⊎_elim (λ left. h.4 word t.1 (nodes_take l word left)) (λ b. ⊎_elim (λ right. h.5 word t.1 (nodes_take r word right)) (λ children. h.6 word t.1 (nodes_take c word children)) b) a) in_node)
    (λ (t : (compare_parts p part ≡ Greater) × InCell (cell_in r (p ∷ [])) word). let taken = found_takes r (p ∷ []) word t.1 in
    ⊎_elim (λ own. h.2 word own taken) (λ a. ⊎_elim (λ left. h.7 word (nodes_take l word left) taken) (λ b. ⊎_elim (λ right. cell_no_node r (p ∷ []) word h.11 t.1 right) (λ children. h.9 word taken (nodes_take c word children)) b) a) in_node)
    other)
    (in_chosen (compare_parts p part) (cell_in l (p ∷ [])) cell (cell_in r (p ∷ [])) word is)
cell_no_node (node at part l r c cell) (p ∷ y ∷ ys) word h is in_node = ⊎_elim
    (λ (t : (compare_parts p part ≡ Less) × InCell (cell_in l (p ∷ y ∷ ys)) word). let taken = found_takes l (p ∷ y ∷ ys) word t.1 in
    ⊎_elim (λ own. h.1 word own taken) (λ a. ⊎_elim (λ left. cell_no_node l (p ∷ y ∷ ys) word h.10 t.1 left) (λ b. ⊎_elim (λ right. h.7 word taken (nodes_take r word right)) (λ children. h.8 word taken (nodes_take c word children)) b) a) in_node)
    (λ other. ⊎_elim
    (λ (t : (compare_parts p part ≡ Equal) × InCell (cell_in c (y ∷ ys)) word). let taken = found_takes c (y ∷ ys) word t.1 in
    ⊎_elim (λ own. h.3 word own taken) (λ a. ⊎_elim (λ left. h.8 word (nodes_take l word left) taken) (λ b. ⊎_elim (λ right. h.9 word (nodes_take r word right) taken) (λ children. cell_no_node c (y ∷ ys) word h.12 t.1 children) b) a) in_node)
    (λ (t : (compare_parts p part ≡ Greater) × InCell (cell_in r (p ∷ y ∷ ys)) word). let taken = found_takes r (p ∷ y ∷ ys) word t.1 in
    ⊎_elim (λ own. h.2 word own taken) (λ a. ⊎_elim (λ left. h.7 word (nodes_take l word left) taken) (λ b. ⊎_elim (λ right. cell_no_node r (p ∷ y ∷ ys) word h.11 t.1 right) (λ children. h.9 word taken (nodes_take c word children)) b) a) in_node)
    other)
    (in_chosen (compare_parts p part) (cell_in l (p ∷ y ∷ ys)) (cell_in c (y ∷ ys)) (cell_in r (p ∷ y ∷ ys)) word is)

within : (at : ℕ) (part : List ℕ) (l r c : Tree) (cell : Cell) (ps : Parts) (word : ℕ) → InCell (cell_in (node at part l r c cell) ps) word → Within at part l r c cell ps word
within at part l r c cell [] word is = none_in word is
within at part l r c cell (p ∷ ps) word is = in_chosen (compare_parts p part) (cell_in l (p ∷ ps)) (at_last ps cell (cell_in c ps)) (cell_in r (p ∷ ps)) word is

-- below a node: the node's own cell, or a child's
below_cell : (c : Tree) (cell : Cell) (ps : Parts) (word : ℕ) → InCell (at_last ps cell (cell_in c ps)) word → InCell cell word ⊎ Takes c word
below_cell c cell [] word is = inl is
below_cell c cell (p ∷ ps) word is = inr (found_takes c (p ∷ ps) word is)

-- no word is of two properties' cells
pub cells_apart : (t : Tree) (ps qs : Parts) (word : ℕ) → IsApart t → (ps ≡ qs → ⊥) → InCell (cell_in t ps) word → InCell (cell_in t qs) word → ⊥
cells_apart leaf ps qs word h other is is' = none_in word is
cells_apart (node at part l r c cell) [] qs word h other is is' = none_in word is
cells_apart (node at part l r c cell) (p ∷ ps) [] word h other is is' = none_in word is'
cells_apart (node at part l r c cell) (p ∷ ps) (q ∷ qs) word h other is is' =
    let cell_left : InCell (at_last ps cell (cell_in c ps)) word → Takes l word → ⊥ =
    λ i j. ⊎_elim (λ own. h.4 word own j) (λ children. h.8 word j children) (below_cell c cell ps word i) in
    let cell_right : InCell (at_last ps cell (cell_in c ps)) word → Takes r word → ⊥ =
    λ i j. ⊎_elim (λ own. h.5 word own j) (λ children. h.9 word j children) (below_cell c cell ps word i) in
    let cell_left' : InCell (at_last qs cell (cell_in c qs)) word → Takes l word → ⊥ =
    λ i j. ⊎_elim (λ own. h.4 word own j) (λ children. h.8 word j children) (below_cell c cell qs word i) in
    let cell_right' : InCell (at_last qs cell (cell_in c qs)) word → Takes r word → ⊥ =
    λ i j. ⊎_elim (λ own. h.5 word own j) (λ children. h.9 word j children) (below_cell c cell qs word i) in
    ⊎_elim
    (λ (a : (compare_parts p part ≡ Less) × InCell (cell_in l (p ∷ ps)) word). ⊎_elim
    (λ (b : (compare_parts q part ≡ Less) × InCell (cell_in l (q ∷ qs)) word). cells_apart l (p ∷ ps) (q ∷ qs) word h.10 other a.1 b.1)
    (λ b'. ⊎_elim
    (λ (b : (compare_parts q part ≡ Equal) × InCell (at_last qs cell (cell_in c qs)) word). cell_left' b.1 (found_takes l (p ∷ ps) word a.1))
    (λ (b : (compare_parts q part ≡ Greater) × InCell (cell_in r (q ∷ qs)) word). h.7 word (found_takes l (p ∷ ps) word a.1) (found_takes r (q ∷ qs) word b.1)) b')
    (within at part l r c cell (q ∷ qs) word is'))
    (λ a'. ⊎_elim
    (λ (a : (compare_parts p part ≡ Equal) × InCell (at_last ps cell (cell_in c ps)) word). ⊎_elim
    (λ (b : (compare_parts q part ≡ Less) × InCell (cell_in l (q ∷ qs)) word). cell_left a.1 (found_takes l (q ∷ qs) word b.1))
    (λ b'. ⊎_elim
    (λ (b : (compare_parts q part ≡ Equal) × InCell (at_last qs cell (cell_in c qs)) word).
    own_cells c cell ps qs word h.6 (λ same. other (λ i. (same_part p part a.0 ∙ sym (same_part q part b.0)) i ∷ same i)) a.1 b.1 (λ differs. cells_apart c ps qs word h.12 differs))
    (λ (b : (compare_parts q part ≡ Greater) × InCell (cell_in r (q ∷ qs)) word). cell_right a.1 (found_takes r (q ∷ qs) word b.1)) b')
    (within at part l r c cell (q ∷ qs) word is'))
    (λ (a : (compare_parts p part ≡ Greater) × InCell (cell_in r (p ∷ ps)) word). ⊎_elim
    (λ (b : (compare_parts q part ≡ Less) × InCell (cell_in l (q ∷ qs)) word). h.7 word (found_takes l (q ∷ qs) word b.1) (found_takes r (p ∷ ps) word a.1))
    (λ b'. ⊎_elim
    (λ (b : (compare_parts q part ≡ Equal) × InCell (at_last qs cell (cell_in c qs)) word). cell_right' b.1 (found_takes r (p ∷ ps) word a.1))
    (λ (b : (compare_parts q part ≡ Greater) × InCell (cell_in r (q ∷ qs)) word). cells_apart r (p ∷ ps) (q ∷ qs) word h.11 other a.1 b.1) b')
    (within at part l r c cell (q ∷ qs) word is'))
    a')
    (within at part l r c cell (p ∷ ps) word is)
  where
    own_cells : (c : Tree) (cell : Cell) (ps qs : Parts) (word : ℕ) → ((w : ℕ) → InCell cell w → Takes c w → ⊥) → (ps ≡ qs → ⊥)
        → InCell (at_last ps cell (cell_in c ps)) word → InCell (at_last qs cell (cell_in c qs)) word
        → ((ps ≡ qs → ⊥) → InCell (cell_in c ps) word → InCell (cell_in c qs) word → ⊥) → ⊥
    own_cells c cell [] [] word apart other is is' rest = other refl
    own_cells c cell [] (q ∷ qs) word apart other is is' rest = apart word is (found_takes c (q ∷ qs) word is')
    own_cells c cell (p ∷ ps) [] word apart other is is' rest = apart word is' (found_takes c (p ∷ ps) word is)
    own_cells c cell (p ∷ ps) (q ∷ qs) word apart other is is' rest = rest other is is'

unchosen : (o : Ordering) (x y z : Type 0) → by_order o x y z → ((o ≡ Less) × x) ⊎ (((o ≡ Equal) × y) ⊎ ((o ≡ Greater) × z))
unchosen Less x y z h = inl (refl, h)
unchosen Equal x y z h = inr (inl (refl, h))
unchosen Greater x y z h = inr (inr (refl, h))

-- the property's link stands in a node
pub ends_in : (t : Tree) (parts : Parts) (link : ℕ) → EndsAt t parts link → InNodes t link
ends_in leaf parts link w = w
ends_in (node at part l r c cell) [] link w = absurd w
ends_in (node at part l r c cell) (p ∷ []) link w = ⊎_elim
    (λ (t : (compare_parts p part ≡ Less) × EndsAt l (p ∷ []) link). inr (inl (ends_in l (p ∷ []) link t.1)))
    (λ other. ⊎_elim
    (λ (t : (compare_parts p part ≡ Equal) × (link ≡ at + 4)). let e = t.1 in inl (omega arith, omega arith))
    (λ (t : (compare_parts p part ≡ Greater) × EndsAt r (p ∷ []) link). inr (inr (inl (ends_in r (p ∷ []) link t.1))))
    other)
    (unchosen (compare_parts p part) (EndsAt l (p ∷ []) link) (link ≡ at + 4) (EndsAt r (p ∷ []) link) w)
ends_in (node at part l r c cell) (p ∷ y ∷ ys) link w = ⊎_elim
    (λ (t : (compare_parts p part ≡ Less) × EndsAt l (p ∷ y ∷ ys) link). inr (inl (ends_in l (p ∷ y ∷ ys) link t.1)))
    (λ other. ⊎_elim
    (λ (t : (compare_parts p part ≡ Equal) × EndsAt c (y ∷ ys) link). inr (inr (inr (ends_in c (y ∷ ys) link t.1))))
    (λ (t : (compare_parts p part ≡ Greater) × EndsAt r (p ∷ y ∷ ys) link). inr (inr (inl (ends_in r (p ∷ y ∷ ys) link t.1))))
    other)
    (unchosen (compare_parts p part) (EndsAt l (p ∷ y ∷ ys) link) (EndsAt c (y ∷ ys) link) (EndsAt r (p ∷ y ∷ ys) link) w)

pub link-with_cell : (t : Tree) (ps : Parts) (new : Cell) → link_to (with_cell t ps new) ≡ link_to t
link-with_cell leaf ps new = refl
link-with_cell (node at part l r c cell) [] new = refl
link-with_cell (node at part l r c cell) (p ∷ []) new = by_cases (λ t. link_to t ≡ at) (compare_parts p part) _ _ _ (λ e. refl) (λ e. refl) (λ e. refl)
link-with_cell (node at part l r c cell) (p ∷ y ∷ ys) new = by_cases (λ t. link_to t ≡ at) (compare_parts p part) _ _ _ (λ e. refl) (λ e. refl) (λ e. refl)

module _ (at : ℕ) (part : List ℕ) (l r c : Tree) (cell : Cell) (words : List ℕ) (link : ℕ) (new : Cell) (h : IsApart (node at part l r c cell)) (holds : TreeHolds words (node at part l r c cell)) where
  abbrev stored : List ℕ
  stored = set words link new.place

  in_left : (more : Tree) → InNodes l link → link_to more ≡ link_to l → TreeHolds stored more → TreeHolds stored (node at part more r c cell)
  in_left more is same spells = (
    subst (λ (x : ℕ). NodeHolds stored at part x (link_to r) (link_to c) cell.place) (sym same)
        (node_else words link new.place at part (link_to l) (link_to r) (link_to c) cell.place holds.0 (λ own. h.1 link own (nodes_take l link is))),
    spells,
    tree_else words link new.place r (λ right. h.7 link (nodes_take l link is) (nodes_take r link right)) holds.2,
    tree_else words link new.place c (λ children. h.8 link (nodes_take l link is) (nodes_take c link children)) holds.3,
  )

  in_right : (more : Tree) → InNodes r link → link_to more ≡ link_to r → TreeHolds stored more → TreeHolds stored (node at part l more c cell)
  in_right more is same spells = (
    subst (λ (x : ℕ). NodeHolds stored at part (link_to l) x (link_to c) cell.place) (sym same)
        (node_else words link new.place at part (link_to l) (link_to r) (link_to c) cell.place holds.0 (λ own. h.2 link own (nodes_take r link is))),
    tree_else words link new.place l (λ left. h.7 link (nodes_take l link left) (nodes_take r link is)) holds.1,
    spells,
    tree_else words link new.place c (λ children. h.9 link (nodes_take r link is) (nodes_take c link children)) holds.3,
  )

  in_children : (more : Tree) → InNodes c link → link_to more ≡ link_to c → TreeHolds stored more → TreeHolds stored (node at part l r more cell)
  in_children more is same spells = (
    subst (λ (x : ℕ). NodeHolds stored at part (link_to l) (link_to r) x cell.place) (sym same)
        (node_else words link new.place at part (link_to l) (link_to r) (link_to c) cell.place holds.0 (λ own. h.3 link own (nodes_take c link is))),
    tree_else words link new.place l (λ left. h.8 link (nodes_take l link left) (nodes_take c link is)) holds.1,
    tree_else words link new.place r (λ right. h.9 link (nodes_take r link right) (nodes_take c link is)) holds.2,
    spells,
  )

  in_own : link ≡ at + 4 → link < length words → TreeHolds stored (node at part l r c new)
  in_own e inside = let n = holds.0 in (
    record {
      length_is = get_or-set_other words link at new.place 0 (λ f. omega arith) ∙ n.length_is;
      left_is = get_or-set_other words link (at + 1) new.place 0 (λ f. omega arith) ∙ n.left_is;
      right_is = get_or-set_other words link (at + 2) new.place 0 (λ f. omega arith) ∙ n.right_is;
      children_is = get_or-set_other words link (at + 3) new.place 0 (λ f. omega arith) ∙ n.children_is;
      cell_is = ap (λ (i : ℕ). get_or stored i 0) (sym e) ∙ get_or-set_same words link new.place 0 inside;
      part_is = λ k small. get_or-set_other words link (at + 5 + k) new.place 0 (λ f. omega arith) ∙ n.part_is k small;
    },
    tree_else words link new.place l (λ left. h.1 link (omega arith, omega arith) (nodes_take l link left)) holds.1,
    tree_else words link new.place r (λ right. h.2 link (omega arith, omega arith) (nodes_take r link right)) holds.2,
    tree_else words link new.place c (λ children. h.3 link (omega arith, omega arith) (nodes_take c link children)) holds.3,
  )

-- a store of the property's link
pub links_cell : (t : Tree) (parts : Parts) (words : List ℕ) (link : ℕ) (new : Cell) → EndsAt t parts link → IsApart t → link < length words → TreeHolds words t
    → TreeHolds (set words link new.place) (with_cell t parts new)
links_cell leaf parts words link new w h inside holds = absurd w
links_cell (node at part l r c cell) [] words link new w h inside holds = absurd w
links_cell (node at part l r c cell) (p ∷ []) words link new w h inside holds =
    by_cases (λ t. by_order (compare_parts p part) (EndsAt l (p ∷ []) link) (link ≡ at + 4) (EndsAt r (p ∷ []) link) → TreeHolds (set words link new.place) t) (compare_parts p part) _ _ _
    (λ e w'. let is : EndsAt l (p ∷ []) link = subst (λ (o : Ordering). by_order o (EndsAt l (p ∷ []) link) (link ≡ at + 4) (EndsAt r (p ∷ []) link)) e w' in
    in_left at part l r c cell words link new h holds (with_cell l (p ∷ []) new) (ends_in l (p ∷ []) link is) (link-with_cell l (p ∷ []) new) (links_cell l (p ∷ []) words link new is h.10 inside holds.1))
    (λ e w'. in_own at part l r c cell words link new h holds (subst (λ (o : Ordering). by_order o (EndsAt l (p ∷ []) link) (link ≡ at + 4) (EndsAt r (p ∷ []) link)) e w') inside)
    (λ e w'. let is : EndsAt r (p ∷ []) link = subst (λ (o : Ordering). by_order o (EndsAt l (p ∷ []) link) (link ≡ at + 4) (EndsAt r (p ∷ []) link)) e w' in
    in_right at part l r c cell words link new h holds (with_cell r (p ∷ []) new) (ends_in r (p ∷ []) link is) (link-with_cell r (p ∷ []) new) (links_cell r (p ∷ []) words link new is h.11 inside holds.2))
    w
links_cell (node at part l r c cell) (p ∷ y ∷ ys) words link new w h inside holds =
    by_cases (λ t. by_order (compare_parts p part) (EndsAt l (p ∷ y ∷ ys) link) (EndsAt c (y ∷ ys) link) (EndsAt r (p ∷ y ∷ ys) link) → TreeHolds (set words link new.place) t) (compare_parts p part) _ _ _
    (λ e w'. let is : EndsAt l (p ∷ y ∷ ys) link = subst (λ (o : Ordering). by_order o (EndsAt l (p ∷ y ∷ ys) link) (EndsAt c (y ∷ ys) link) (EndsAt r (p ∷ y ∷ ys) link)) e w' in
    in_left at part l r c cell words link new h holds (with_cell l (p ∷ y ∷ ys) new) (ends_in l (p ∷ y ∷ ys) link is) (link-with_cell l (p ∷ y ∷ ys) new) (links_cell l (p ∷ y ∷ ys) words link new is h.10 inside holds.1))
    (λ e w'. let is : EndsAt c (y ∷ ys) link = subst (λ (o : Ordering). by_order o (EndsAt l (p ∷ y ∷ ys) link) (EndsAt c (y ∷ ys) link) (EndsAt r (p ∷ y ∷ ys) link)) e w' in
    in_children at part l r c cell words link new h holds (with_cell c (y ∷ ys) new) (ends_in c (y ∷ ys) link is) (link-with_cell c (y ∷ ys) new) (links_cell c (y ∷ ys) words link new is h.12 inside holds.3))
    (λ e w'. let is : EndsAt r (p ∷ y ∷ ys) link = subst (λ (o : Ordering). by_order o (EndsAt l (p ∷ y ∷ ys) link) (EndsAt c (y ∷ ys) link) (EndsAt r (p ∷ y ∷ ys) link)) e w' in
    in_right at part l r c cell words link new h holds (with_cell r (p ∷ y ∷ ys) new) (ends_in r (p ∷ y ∷ ys) link is) (link-with_cell r (p ∷ y ∷ ys) new) (links_cell r (p ∷ y ∷ ys) words link new is h.11 inside holds.2))
    w
