-- Growth and a new cell keep nodes and cells apart; and where the trie of names lies.
use Rattle.std.proofs.Common.{◌≡◌, ℕ, zero, suc, ◌+◌, ◌<◌, ◌≤◌, ◌⊎◌, true, false, ◌==◌, List, [], ◌∷◌, length, inl, inr, ⊎_elim, refl, arith, if◌then◌else◌}
use Rattle.init_machine.specs.Words.{Sized, cell_words}
use Rattle.property_trie.specs.Parts.{parts_of, compare_parts, node_size}
use Rattle.property_trie.specs.Tree.{Tree, Cell, no_cell, Trie, find, chain, grown, with_cell, cell_place, with_property, added, trie_from, trie_of}
use Rattle.property_trie.specs.Tree.Tree.{leaf, node}
use Rattle.property_trie.specs.Places.{InNode, InCell, Takes, Apart, IsApart, LiesWell}
use Rattle.property_trie.proofs.Orders.{by_cases}
use Rattle.property_trie.proofs.Lies.{Below, below_own, below_cell, below_left, below_right, below_children, takes-chain, takes-grown, takes-with_cell, ordered-grown, ordered-with_cell, rising-grown, rising-with_cell, wide-grown, wide-with_cell, cell_wide}

abbrev Parts : Type 0
Parts = List (List ℕ)

swap : (P Q : ℕ → Type 0) → Apart P Q → Apart Q P
swap P Q h word q p = h word p q

-- what is added lies behind
grows : (P Q more : ℕ → Type 0) (place : ℕ) → Apart P Q → ((word : ℕ) → P word → word < place) → ((word : ℕ) → more word → Q word ⊎ (place ≤ word)) → Apart P more
grows P Q more place h below adds word p q = ⊎_elim (λ old. h word p old) (λ (new : place ≤ word). let b = below word p in absurd (omega arith)) (adds word q)

adds-grown : (n : ℕ) (t : Tree) (ps : Parts) (place word : ℕ) → Takes (grown n t ps place) word → Takes t word ⊎ (place ≤ word)
adds-grown n t ps place word is = ⊎_elim (λ old. inl old) (λ new. inr new.0) (takes-grown n t ps place word is)

adds-with_cell : (t : Tree) (ps : Parts) (new : Cell) (word : ℕ) → Takes (with_cell t ps new) word → Takes t word ⊎ (new.place ≤ word)
adds-with_cell t ps new word is = ⊎_elim (λ old. inl old) (λ (cell : InCell new word). inr cell.1) (takes-with_cell t ps new word is)

none_in : (P : ℕ → Type 0) → Apart (InCell no_cell) P
none_in P word cell p = let a = cell.0 in absurd (omega arith)

apart-chain : (n : ℕ) (ps : Parts) (place : ℕ) → IsApart (chain n ps place)
apart-chain n [] place = tt
apart-chain zero (p ∷ ps) place = tt
apart-chain (suc n) (p ∷ ps) place =
    let next = place + node_size p in
    let rest : Tree = chain n ps next in (
      swap (InCell no_cell) (InNode place p) (none_in (InNode place p)),
      (λ word own none. none),
      (λ word own none. none),
      (λ word own below. let b = (takes-chain n ps next word below).0 in let a = own.1 in absurd (omega arith)),
      none_in (Takes leaf),
      none_in (Takes leaf),
      none_in (Takes rest),
      (λ word none other. none),
      (λ word none other. none),
      (λ word none other. none),
      tt,
      tt,
      apart-chain n ps next,
    )

-- a cell behind all words is apart from them
behind : (P : ℕ → Type 0) (new : Cell) → ((word : ℕ) → P word → word < new.place) → Apart P (InCell new)
behind P new below word p cell = let b = below word p in let c = cell.1 in absurd (omega arith)

module _ (at : ℕ) (part : List ℕ) (l r c : Tree) (cell : Cell) (new : ℕ) (below : Below new (node at part l r c cell)) (h : IsApart (node at part l r c cell)) where
  own : (word : ℕ) → InNode at part word → word < new
  own = below_own new at part l r c cell below

  body : (word : ℕ) → InCell cell word → word < new
  body = below_cell new at part l r c cell below

  left : Below new l
  left = below_left new at part l r c cell below

  right : Below new r
  right = below_right new at part l r c cell below

  children : Below new c
  children = below_children new at part l r c cell below

  pub apart_left : (more : Tree) → ((word : ℕ) → Takes more word → Takes l word ⊎ (new ≤ word)) → IsApart more → IsApart (node at part more r c cell)
  apart_left more adds is = (
    h.0,
    grows (InNode at part) (Takes l) (Takes more) new h.1 own adds,
    h.2,
    h.3,
    grows (InCell cell) (Takes l) (Takes more) new h.4 body adds,
    h.5,
    h.6,
    swap (Takes r) (Takes more) (grows (Takes r) (Takes l) (Takes more) new (swap (Takes l) (Takes r) h.7) right adds),
    swap (Takes c) (Takes more) (grows (Takes c) (Takes l) (Takes more) new (swap (Takes l) (Takes c) h.8) children adds),
    h.9,
    is,
    h.11,
    h.12,
  )

  pub apart_right : (more : Tree) → ((word : ℕ) → Takes more word → Takes r word ⊎ (new ≤ word)) → IsApart more → IsApart (node at part l more c cell)
  apart_right more adds is = (
    h.0,
    h.1,
    grows (InNode at part) (Takes r) (Takes more) new h.2 own adds,
    h.3,
    h.4,
    grows (InCell cell) (Takes r) (Takes more) new h.5 body adds,
    h.6,
    grows (Takes l) (Takes r) (Takes more) new h.7 left adds,
    h.8,
    swap (Takes c) (Takes more) (grows (Takes c) (Takes r) (Takes more) new (swap (Takes r) (Takes c) h.9) children adds),
    h.10,
    is,
    h.12,
  )

  pub apart_children : (more : Tree) → ((word : ℕ) → Takes more word → Takes c word ⊎ (new ≤ word)) → IsApart more → IsApart (node at part l r more cell)
  apart_children more adds is = (
    h.0,
    h.1,
    h.2,
    grows (InNode at part) (Takes c) (Takes more) new h.3 own adds,
    h.4,
    h.5,
    grows (InCell cell) (Takes c) (Takes more) new h.6 body adds,
    h.7,
    grows (Takes l) (Takes c) (Takes more) new h.8 left adds,
    grows (Takes r) (Takes c) (Takes more) new h.9 right adds,
    h.10,
    h.11,
    is,
  )

  pub apart_cell : (fresh : Cell) → new ≡ fresh.place → IsApart (node at part l r c fresh)
  apart_cell fresh is = (
    behind (InNode at part) fresh (λ word p. let b = own word p in omega arith),
    h.1,
    h.2,
    h.3,
    swap (Takes l) (InCell fresh) (behind (Takes l) fresh (λ word p. let b = left word p in omega arith)),
    swap (Takes r) (InCell fresh) (behind (Takes r) fresh (λ word p. let b = right word p in omega arith)),
    swap (Takes c) (InCell fresh) (behind (Takes c) fresh (λ word p. let b = children word p in omega arith)),
    h.7,
    h.8,
    h.9,
    h.10,
    h.11,
    h.12,
  )

pub apart-grown : (n : ℕ) (t : Tree) (ps : Parts) (place : ℕ) → Below place t → IsApart t → IsApart (grown n t ps place)
apart-grown n leaf ps place below h = apart-chain n ps place
apart-grown n (node at part l r c cell) [] place below h = h
apart-grown n (node at part l r c cell) (p ∷ ps) place below h =
    by_cases IsApart (compare_parts p part) _ _ _
    (λ e. apart_left at part l r c cell place below h (grown n l (p ∷ ps) place) (adds-grown n l (p ∷ ps) place) (apart-grown n l (p ∷ ps) place (below_left place at part l r c cell below) h.10))
    (λ e. apart_children at part l r c cell place below h (grown n c ps place) (adds-grown n c ps place) (apart-grown n c ps place (below_children place at part l r c cell below) h.12))
    (λ e. apart_right at part l r c cell place below h (grown n r (p ∷ ps) place) (adds-grown n r (p ∷ ps) place) (apart-grown n r (p ∷ ps) place (below_right place at part l r c cell below) h.11))

pub apart-with_cell : (t : Tree) (ps : Parts) (new : Cell) → Below new.place t → IsApart t → IsApart (with_cell t ps new)
apart-with_cell leaf ps new below h = tt
apart-with_cell (node at part l r c cell) [] new below h = h
apart-with_cell (node at part l r c cell) (p ∷ []) new below h =
    by_cases IsApart (compare_parts p part) _ _ _
    (λ e. apart_left at part l r c cell new.place below h (with_cell l (p ∷ []) new) (adds-with_cell l (p ∷ []) new) (apart-with_cell l (p ∷ []) new (below_left new.place at part l r c cell below) h.10))
    (λ e. apart_cell at part l r c cell new.place below h new refl)
    (λ e. apart_right at part l r c cell new.place below h (with_cell r (p ∷ []) new) (adds-with_cell r (p ∷ []) new) (apart-with_cell r (p ∷ []) new (below_right new.place at part l r c cell below) h.11))
apart-with_cell (node at part l r c cell) (p ∷ y ∷ ys) new below h =
    by_cases IsApart (compare_parts p part) _ _ _
    (λ e. apart_left at part l r c cell new.place below h (with_cell l (p ∷ y ∷ ys) new) (adds-with_cell l (p ∷ y ∷ ys) new) (apart-with_cell l (p ∷ y ∷ ys) new (below_left new.place at part l r c cell below) h.10))
    (λ e. apart_children at part l r c cell new.place below h (with_cell c (y ∷ ys) new) (adds-with_cell c (y ∷ ys) new) (apart-with_cell c (y ∷ ys) new (below_children new.place at part l r c cell below) h.12))
    (λ e. apart_right at part l r c cell new.place below h (with_cell r (p ∷ y ∷ ys) new) (adds-with_cell r (p ∷ y ∷ ys) new) (apart-with_cell r (p ∷ y ∷ ys) new (below_right new.place at part l r c cell below) h.11))

-- the whole trie
module _ (trie : Trie) (above : 16 ≤ trie.mark) (h : LiesWell trie.tree trie.mark) (parts : Parts) (words : ℕ) (wide : 13 ≤ words) where
  abbrev new : Cell
  new = record { place = cell_place trie parts; words = words }

  abbrev wider : Tree
  wider = grown (length parts) trie.tree parts trie.mark

  below : Below trie.mark trie.tree
  below word is = (h.within word is).1

  wider_below : Below (cell_place trie parts) wider
  wider_below word is = ⊎_elim
      (λ old. let b = below word old in omega arith)
      (λ new. new.1)
      (takes-grown (length parts) trie.tree parts trie.mark word is)

  pub lies_more : LiesWell (with_property trie parts words).tree (with_property trie parts words).mark
  lies_more = record {
    ordered = ordered-with_cell wider parts new (ordered-grown (length parts) trie.tree parts trie.mark h.ordered);
    rising = rising-with_cell wider parts new (rising-grown (length parts) trie.tree parts trie.mark below h.rising);
    within = λ word is. ⊎_elim
        (λ wide. ⊎_elim
        (λ old. let w = h.within word old in let a = w.0 in let b = w.1 in (a, omega arith))
        (λ new. let a = new.0 in let b = new.1 in (omega arith, omega arith))
        (takes-grown (length parts) trie.tree parts trie.mark word wide))
        (λ (cell : InCell new word). let a = cell.1 in let b = cell.2 in (omega arith, omega arith))
        (takes-with_cell wider parts new word is);
    apart = apart-with_cell wider parts new wider_below (apart-grown (length parts) trie.tree parts trie.mark below h.apart);
    wide = wide-with_cell wider parts new wide (wide-grown (length parts) trie.tree parts trie.mark h.wide);
  }

pub lies_added : (trie : Trie) (sized : Sized) → 16 ≤ trie.mark → LiesWell trie.tree trie.mark
    → (16 ≤ (added trie sized).mark) × LiesWell (added trie sized).tree (added trie sized).mark
lies_added trie sized above h =
    elim (find trie.tree (parts_of sized.0) == 0) as (λ t. let more : Trie = if t then with_property trie (parts_of sized.0) (cell_words sized.1) else trie in (16 ≤ more.mark) × LiesWell more.tree more.mark) [
      | true ↦ (let w = cell_wide sized.1 in omega arith, lies_more trie above h (parts_of sized.0) (cell_words sized.1) (cell_wide sized.1))
      | false ↦ (above, h)
    ]

lies_from : (trie : Trie) (names : List Sized) → 16 ≤ trie.mark → LiesWell trie.tree trie.mark → LiesWell (trie_from trie names).tree (trie_from trie names).mark
lies_from trie [] above h = h
lies_from trie (name ∷ names) above h = let more = lies_added trie name above h in lies_from (added trie name) names more.0 more.1

-- the trie of names lies well
pub trie_lies : (names : List Sized) → LiesWell (trie_of names).tree (trie_of names).mark
trie_lies names = lies_from (record { tree = leaf; mark = 16 }) names (omega arith) record {
  ordered = tt;
  rising = tt;
  within = λ word none. absurd none;
  apart = tt;
  wide = tt;
}
