-- What the store of the link to a new cell leaves: the trie of the names with the new one.
use Rattle.std.proofs.Common.{◌≡◌, ℕ, zero, suc, ◌+◌, ◌-◌, ◌<◌, ◌≤◌, Bool, eq-eqb, List, [], ◌∷◌, ◌++◌, length, take, get_or, set, sym, refl, ap, ◌∙◌, subst, arith, length-set, get_or-set_other, if◌then◌else◌}
use Rattle.std.proofs.lemmas.List.{length-drop}
use Rattle.std.specs.declared.cmp.Ordering.TheVariants.{Less, Equal, Greater}
use Rattle.init_machine.specs.Sets.{Set}
use Rattle.init_machine.specs.Words.{Sized, cell_words}
use Rattle.property_trie.specs.Parts.{parts_of, compare_parts, node_size}
use Rattle.property_trie.specs.Tree.{Tree, Cell, no_cell, Trie, by_order, find, depth, chain, grown, with_cell, node_sizes, cell_place, with_property, added, trie_from, trie_of}
use Rattle.property_trie.specs.Tree.Tree.{leaf, node}
use Rattle.property_trie.specs.TreeWords.{TrieHolds}
use Rattle.property_trie.specs.TrieSteps.{sizes_of, tree_of, missing_parts}
use Rattle.property_trie.specs.Additions.{new_cell, new_cell_word, tree_with, free_place}
use Rattle.property_trie.specs.Held.{HasShortParts, TrieStands, AdditionStands}
use Rattle.property_trie.specs.Walk.{EndsAt}
use Rattle.property_trie.proofs.Orders.{by_cases}
use Rattle.property_trie.proofs.Growth.{depth-grown}
use Rattle.property_trie.proofs.Apart.{trie_lies}
use Rattle.property_trie.proofs.Frames.{nodes_take}
use Rattle.property_trie.proofs.Cells.{ends_in, link-with_cell, links_cell}
use Rattle.property_trie.proofs.Walks.{ends_deep}
use Rattle.property_trie.proofs.Additional.{length-first_words}
use Rattle.property_trie.proofs.Stored.{alike_whole, first_at}

abbrev Parts : Type 0
Parts = List (List ℕ)

-- growth by more nodes than are missing is growth by all that are missing
chain_enough : (n m : ℕ) (ps : Parts) (place : ℕ) → length ps ≤ n → length ps ≤ m → chain n ps place ≡ chain m ps place
chain_enough n m [] place a b = refl
chain_enough zero m (p ∷ ps) place a b = absurd (omega arith)
chain_enough (suc n) zero (p ∷ ps) place a b = absurd (omega arith)
chain_enough (suc n) (suc m) (p ∷ ps) place a b = ap (λ (t : Tree). node place p leaf leaf t no_cell) (chain_enough n m ps (place + node_size p) (omega arith) (omega arith))

grown_enough : (n m : ℕ) (t : Tree) (ps : Parts) (place : ℕ) → length ps ≤ n + depth t ps → length ps ≤ m + depth t ps → grown n t ps place ≡ grown m t ps place
grown_enough n m leaf ps place a b = chain_enough n m ps place (omega arith) (omega arith)
grown_enough n m (node at part l r c cell) [] place a b = refl
grown_enough n m (node at part l r c cell) (x ∷ xs) place a b =
    elim (compare_parts x part) as (λ o. length (x ∷ xs) ≤ n + by_order o (depth l (x ∷ xs)) (1 + depth c xs) (depth r (x ∷ xs))
    → length (x ∷ xs) ≤ m + by_order o (depth l (x ∷ xs)) (1 + depth c xs) (depth r (x ∷ xs))
    → by_order o (node at part (grown n l (x ∷ xs) place) r c cell) (node at part l r (grown n c xs place) cell) (node at part l (grown n r (x ∷ xs) place) c cell)
    ≡ by_order o (node at part (grown m l (x ∷ xs) place) r c cell) (node at part l r (grown m c xs place) cell) (node at part l (grown m r (x ∷ xs) place) c cell)) [
      | Less ↦ λ f g. ap (λ (t : Tree). node at part t r c cell) (grown_enough n m l (x ∷ xs) place f g)
      | Equal ↦ λ f g. ap (λ (t : Tree). node at part l r t cell) (grown_enough n m c xs place (omega arith) (omega arith))
      | Greater ↦ λ f g. ap (λ (t : Tree). node at part l t c cell) (grown_enough n m r (x ∷ xs) place f g)
    ] a b

take_enough : (n : ℕ) (ps : Parts) → length ps ≤ n → take n ps ≡ ps
take_enough zero [] le = refl
take_enough (suc n) [] le = refl
take_enough zero (p ∷ ps) le = absurd (omega arith)
take_enough (suc n) (p ∷ ps) le = ap (λ (qs : Parts). p ∷ qs) (take_enough n ps (omega arith))

short_with_cell : (t : Tree) (ps : Parts) (new : Cell) → HasShortParts t → HasShortParts (with_cell t ps new)
short_with_cell leaf ps new h = tt
short_with_cell (node at part l r c cell) [] new h = h
short_with_cell (node at part l r c cell) (p ∷ []) new h =
    by_cases HasShortParts (compare_parts p part) _ _ _ (λ e. (h.0, short_with_cell l (p ∷ []) new h.1, h.2, h.3)) (λ e. h) (λ e. (h.0, h.1, short_with_cell r (p ∷ []) new h.2, h.3))
short_with_cell (node at part l r c cell) (p ∷ y ∷ ys) new h =
    by_cases HasShortParts (compare_parts p part) _ _ _
    (λ e. (h.0, short_with_cell l (p ∷ y ∷ ys) new h.1, h.2, h.3))
    (λ e. (h.0, h.1, h.2, short_with_cell c (y ∷ ys) new h.3))
    (λ e. (h.0, h.1, short_with_cell r (p ∷ y ∷ ys) new h.2, h.3))

from_end : (trie : Trie) (names : List Sized) (name : Sized) → trie_from trie (names ++ name ∷ []) ≡ added (trie_from trie names) name
from_end trie [] name = refl
from_end trie (other ∷ names) name = from_end (added trie other) names name

names_end : (sets : List Set) (set : Set) → sizes_of (sets ++ set ∷ []) ≡ sizes_of sets ++ (set.0, length set.1) ∷ []
names_end [] set = refl
names_end (s ∷ sets) set = ap (λ (sized : List Sized). (s.0, length s.1) ∷ sized) (names_end sets set)

-- the trie once the set of an absent name is accepted
pub trie_more : (sets : List Set) (name value : List ℕ) → find (tree_of sets) (parts_of name) ≡ 0
    → trie_of (sizes_of (sets ++ (name, value) ∷ [])) ≡ with_property (trie_of (sizes_of sets)) (parts_of name) (cell_words (length value))
trie_more sets name value absent =
    let trie : Trie = trie_of (sizes_of sets) in
    ap trie_of (names_end sets (name, value)) ∙ from_end (trie_of []) (sizes_of sets) (name, length value)
    ∙ ap (λ (b : Bool). if b then with_property trie (parts_of name) (cell_words (length value)) else trie) (eq-eqb (find trie.tree (parts_of name)) 0 absent)

module _ (words : List ℕ) (sets : List Set) (name value : List ℕ) (linked link : ℕ) (h : AdditionStands words sets name linked (new_cell (length sets + 1) value))
    (absent : find (tree_of sets) (parts_of name) ≡ 0) (ends : EndsAt (tree_with sets name linked) (parts_of name) link) where
  abbrev ps : Parts
  ps = parts_of name

  abbrev free : ℕ
  free = free_place sets name linked

  abbrev words_of : ℕ
  words_of = cell_words (length value)

  abbrev cell : Cell
  cell = record { place = free; words = words_of }

  abbrev tree : Tree
  tree = tree_with sets name linked

  abbrev later : Trie
  later = trie_of (sizes_of (sets ++ (name, value) ∷ []))

  -- all missing nodes are linked
  enough : length ps ≤ linked + depth (tree_of sets) ps
  enough =
      let deep = ends_deep tree ps link ends in
      let grew = depth-grown linked (tree_of sets) ps (trie_of (sizes_of sets)).mark ps in
      let all = alike_whole ps in
      omega arith

  pub free_is : free ≡ cell_place (trie_of (sizes_of sets)) ps
  free_is =
      let long : length (missing_parts (tree_of sets) ps) ≡ length ps - depth (tree_of sets) ps = length-drop (depth (tree_of sets) ps) ps in
      let e = enough in
      ap (λ (qs : Parts). (trie_of (sizes_of sets)).mark + node_sizes qs) (take_enough linked (missing_parts (tree_of sets) ps) (omega arith))

  pub tree_is : later.tree ≡ with_cell tree ps cell
  tree_is =
      let e = enough in
      ap (λ (t : Trie). t.tree) (trie_more sets name value absent)
      ∙ (λ i. with_cell (grown_enough (length ps) linked (tree_of sets) ps (trie_of (sizes_of sets)).mark (omega arith) e i) ps (record { place = sym free_is i; words = words_of }))

  pub mark_is : later.mark ≡ free + words_of
  mark_is = ap (λ (t : Trie). t.mark) (trie_more sets name value absent) ∙ ap (λ (k : ℕ). k + words_of) (sym free_is)

  pub in_tree : (16 ≤ link) × (link < free)
  in_tree = h.trie.lies.within link (nodes_take tree link (ends_in tree ps link ends))

  -- the trie has the new name
  pub cell_stored : TrieStands (set words link free) later.tree later.mark
  cell_stored =
      let inside = h.inside in
      let room = h.trie.room in
      let wide : length (new_cell (length sets + 1) value) ≡ words_of = length-first_words (new_cell_word (length sets + 1) value) words_of in
      let after : length (set words link free) ≡ length words = length-set words link free in
      let low = in_tree.0 in
      let below = in_tree.1 in
      let mark = mark_is in record {
        holds = subst (λ (t : Tree). TrieHolds (set words link free) t) (sym tree_is) record {
          top = get_or-set_other words link 1 free 0 (λ e. omega arith) ∙ h.trie.holds.top ∙ sym (link-with_cell tree ps cell);
          nodes = links_cell tree ps words link cell ends h.trie.lies.apart (omega arith) h.trie.holds.nodes;
        };
        lies = trie_lies (sizes_of (sets ++ (name, value) ∷ []));
        room = omega arith;
        parts = subst HasShortParts (sym tree_is) (short_with_cell tree ps cell h.trie.parts);
      }

  -- and the cell's words stand at its place
  pub new_words : (k : ℕ) → k < words_of → get_or (set words link free) (free + k) 0 ≡ new_cell_word (length sets + 1) value k
  new_words k small =
      let wide : length (new_cell (length sets + 1) value) ≡ words_of = length-first_words (new_cell_word (length sets + 1) value) words_of in
      let below = in_tree.1 in
      get_or-set_other words link (free + k) free 0 (λ e. omega arith) ∙ h.spelt k (omega arith) ∙ first_at (new_cell_word (length sets + 1) value) words_of k small
