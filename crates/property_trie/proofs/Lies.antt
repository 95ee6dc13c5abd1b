-- Growth and a new cell keep the tree in order, rising and apart.
use Rattle.std.proofs.Common.{◌≡◌, ◌≢◌, ℕ, zero, suc, ◌+◌, ◌/◌, ◌<◌, ◌≤◌, ◌⊎◌, Bool, true, false, nat_le, refl, if◌then◌else◌, List, [], ◌∷◌, drop, sym, ap, subst, inl, inr, ⊎_elim, arith}
use Rattle.std.specs.declared.cmp.Ordering.{Ordering}
use Rattle.std.specs.declared.cmp.Ordering.TheVariants.{Less, Equal, Greater}
use Rattle.property_trie.specs.Parts.{compare_parts, node_size}
use Rattle.std.proofs.lemmas.Bool.{cases_Bool}
use Rattle.std.proofs.lemmas.Bool.Decides.{nat_tests}
use Rattle.init_machine.specs.Words.{cell_words}
use Rattle.property_trie.specs.Tree.{Tree, Cell, no_cell, cell_in, by_order, depth, chain, grown, with_cell, node_sizes}
use Rattle.property_trie.specs.Tree.Tree.{leaf, node}
use Rattle.property_trie.specs.Places.{EachSibling, IsOrdered, LiesFrom, IsRising, InNode, InCell, Takes, HasWideCells}
use Rattle.property_trie.proofs.Orders.{by_cases}

abbrev Parts : Type 0
Parts = List (List ℕ)

-- the order
each-grown : (o : Ordering) (n : ℕ) (t : Tree) (p : List ℕ) (ps : Parts) (place : ℕ) (x : List ℕ) → compare_parts p x ≡ o → EachSibling o t x → EachSibling o (grown n t (p ∷ ps) place) x
each-grown o zero leaf p ps place x e h = tt
each-grown o (suc n) leaf p ps place x e h = (e, tt, tt)
each-grown o n (node at part l r c cell) p ps place x e h =
    by_cases (λ t. EachSibling o t x) (compare_parts p part) _ _ _
    (λ _. (h.0, each-grown o n l p ps place x e h.1, h.2))
    (λ _. (h.0, h.1, h.2))
    (λ _. (h.0, h.1, each-grown o n r p ps place x e h.2))

ordered-chain : (n : ℕ) (ps : Parts) (place : ℕ) → IsOrdered (chain n ps place)
ordered-chain n [] place = tt
ordered-chain zero (p ∷ ps) place = tt
ordered-chain (suc n) (p ∷ ps) place = (tt, tt, tt, tt, ordered-chain n ps (place + node_size p))

pub ordered-grown : (n : ℕ) (t : Tree) (ps : Parts) (place : ℕ) → IsOrdered t → IsOrdered (grown n t ps place)
ordered-grown n leaf ps place h = ordered-chain n ps place
ordered-grown n (node at part l r c cell) [] place h = h
ordered-grown n (node at part l r c cell) (p ∷ ps) place h =
    by_cases IsOrdered (compare_parts p part) _ _ _
    (λ e. (each-grown Less n l p ps place part e h.0, h.1, ordered-grown n l (p ∷ ps) place h.2, h.3, h.4))
    (λ e. (h.0, h.1, h.2, h.3, ordered-grown n c ps place h.4))
    (λ e. (h.0, each-grown Greater n r p ps place part e h.1, h.2, ordered-grown n r (p ∷ ps) place h.3, h.4))

each-with_cell : (o : Ordering) (t : Tree) (ps : Parts) (new : Cell) (x : List ℕ) → EachSibling o t x → EachSibling o (with_cell t ps new) x
each-with_cell o leaf ps new x h = tt
each-with_cell o (node at part l r c cell) [] new x h = h
each-with_cell o (node at part l r c cell) (p ∷ []) new x h =
    by_cases (λ t. EachSibling o t x) (compare_parts p part) _ _ _
    (λ _. (h.0, each-with_cell o l (p ∷ []) new x h.1, h.2)) (λ _. (h.0, h.1, h.2)) (λ _. (h.0, h.1, each-with_cell o r (p ∷ []) new x h.2))
each-with_cell o (node at part l r c cell) (p ∷ y ∷ ys) new x h =
    by_cases (λ t. EachSibling o t x) (compare_parts p part) _ _ _
    (λ _. (h.0, each-with_cell o l (p ∷ y ∷ ys) new x h.1, h.2)) (λ _. (h.0, h.1, h.2)) (λ _. (h.0, h.1, each-with_cell o r (p ∷ y ∷ ys) new x h.2))

pub ordered-with_cell : (t : Tree) (ps : Parts) (new : Cell) → IsOrdered t → IsOrdered (with_cell t ps new)
ordered-with_cell leaf ps new h = tt
ordered-with_cell (node at part l r c cell) [] new h = h
ordered-with_cell (node at part l r c cell) (p ∷ []) new h =
    by_cases IsOrdered (compare_parts p part) _ _ _
    (λ e. (each-with_cell Less l (p ∷ []) new part h.0, h.1, ordered-with_cell l (p ∷ []) new h.2, h.3, h.4))
    (λ e. (h.0, h.1, h.2, h.3, h.4))
    (λ e. (h.0, each-with_cell Greater r (p ∷ []) new part h.1, h.2, ordered-with_cell r (p ∷ []) new h.3, h.4))
ordered-with_cell (node at part l r c cell) (p ∷ y ∷ ys) new h =
    by_cases IsOrdered (compare_parts p part) _ _ _
    (λ e. (each-with_cell Less l (p ∷ y ∷ ys) new part h.0, h.1, ordered-with_cell l (p ∷ y ∷ ys) new h.2, h.3, h.4))
    (λ e. (h.0, h.1, h.2, h.3, ordered-with_cell c (y ∷ ys) new h.4))
    (λ e. (h.0, each-with_cell Greater r (p ∷ y ∷ ys) new part h.1, h.2, ordered-with_cell r (p ∷ y ∷ ys) new h.3, h.4))

-- the places
pub lies-lower : (low high : ℕ) (t : Tree) → low ≤ high → LiesFrom high t → LiesFrom low t
lies-lower low high leaf le h = tt
lies-lower low high (node at part l r c cell) le h =
    (let a = h.0 in omega arith, lies-lower low high l le h.1, lies-lower low high r le h.2, lies-lower low high c le h.3)

lies-chain : (n : ℕ) (ps : Parts) (place : ℕ) → LiesFrom place (chain n ps place)
lies-chain n [] place = tt
lies-chain zero (p ∷ ps) place = tt
lies-chain (suc n) (p ∷ ps) place =
    (omega arith, tt, tt, lies-lower place (place + node_size p) (chain n ps (place + node_size p)) (omega arith) (lies-chain n ps (place + node_size p)))

lies-grown : (low n : ℕ) (t : Tree) (ps : Parts) (place : ℕ) → low ≤ place → LiesFrom low t → LiesFrom low (grown n t ps place)
lies-grown low n leaf ps place le h = lies-lower low place (chain n ps place) le (lies-chain n ps place)
lies-grown low n (node at part l r c cell) [] place le h = h
lies-grown low n (node at part l r c cell) (p ∷ ps) place le h =
    by_cases (LiesFrom low) (compare_parts p part) _ _ _
    (λ e. (h.0, lies-grown low n l (p ∷ ps) place le h.1, h.2, h.3))
    (λ e. (h.0, h.1, h.2, lies-grown low n c ps place le h.3))
    (λ e. (h.0, h.1, lies-grown low n r (p ∷ ps) place le h.2, h.3))

rising-chain : (n : ℕ) (ps : Parts) (place : ℕ) → IsRising (chain n ps place)
rising-chain n [] place = tt
rising-chain zero (p ∷ ps) place = tt
rising-chain (suc n) (p ∷ ps) place = let next = place + node_size p in
    (tt, tt, lies-lower (place + 1) next (chain n ps next) (omega arith) (lies-chain n ps next), tt, tt, rising-chain n ps next)

-- all words of the tree lie below
abbrev pub Below : ℕ → Tree → Type 0
Below high t = (word : ℕ) → Takes t word → word < high

module _ (high at : ℕ) (part : List ℕ) (l r c : Tree) (cell : Cell) (h : Below high (node at part l r c cell)) where
  pub below_own : (word : ℕ) → InNode at part word → word < high
  below_own word is = h word (inl is)

  pub below_cell : (word : ℕ) → InCell cell word → word < high
  below_cell word is = h word (inr (inl is))

  pub below_left : Below high l
  below_left word is = h word (inr (inr (inl is)))

  pub below_right : Below high r
  below_right word is = h word (inr (inr (inr (inl is))))

  pub below_children : Below high c
  below_children word is = h word (inr (inr (inr (inr is))))

  pub below_place : at + 1 ≤ high
  below_place = let b = below_own at (omega arith, omega arith) in omega arith

pub rising-grown : (n : ℕ) (t : Tree) (ps : Parts) (place : ℕ) → Below place t → IsRising t → IsRising (grown n t ps place)
rising-grown n leaf ps place below h = rising-chain n ps place
rising-grown n (node at part l r c cell) [] place below h = h
rising-grown n (node at part l r c cell) (p ∷ ps) place below h =
    let le = below_place place at part l r c cell below in
    by_cases IsRising (compare_parts p part) _ _ _
    (λ e. (lies-grown (at + 1) n l (p ∷ ps) place le h.0, h.1, h.2, rising-grown n l (p ∷ ps) place (below_left place at part l r c cell below) h.3, h.4, h.5))
    (λ e. (h.0, h.1, lies-grown (at + 1) n c ps place le h.2, h.3, h.4, rising-grown n c ps place (below_children place at part l r c cell below) h.5))
    (λ e. (h.0, lies-grown (at + 1) n r (p ∷ ps) place le h.1, h.2, h.3, rising-grown n r (p ∷ ps) place (below_right place at part l r c cell below) h.4, h.5))

lies-with_cell : (low : ℕ) (t : Tree) (ps : Parts) (new : Cell) → LiesFrom low t → LiesFrom low (with_cell t ps new)
lies-with_cell low leaf ps new h = tt
lies-with_cell low (node at part l r c cell) [] new h = h
lies-with_cell low (node at part l r c cell) (p ∷ []) new h =
    by_cases (LiesFrom low) (compare_parts p part) _ _ _
    (λ e. (h.0, lies-with_cell low l (p ∷ []) new h.1, h.2, h.3)) (λ e. (h.0, h.1, h.2, h.3)) (λ e. (h.0, h.1, lies-with_cell low r (p ∷ []) new h.2, h.3))
lies-with_cell low (node at part l r c cell) (p ∷ y ∷ ys) new h =
    by_cases (LiesFrom low) (compare_parts p part) _ _ _
    (λ e. (h.0, lies-with_cell low l (p ∷ y ∷ ys) new h.1, h.2, h.3)) (λ e. (h.0, h.1, h.2, lies-with_cell low c (y ∷ ys) new h.3)) (λ e. (h.0, h.1, lies-with_cell low r (p ∷ y ∷ ys) new h.2, h.3))

pub rising-with_cell : (t : Tree) (ps : Parts) (new : Cell) → IsRising t → IsRising (with_cell t ps new)
rising-with_cell leaf ps new h = tt
rising-with_cell (node at part l r c cell) [] new h = h
rising-with_cell (node at part l r c cell) (p ∷ []) new h =
    by_cases IsRising (compare_parts p part) _ _ _
    (λ e. (lies-with_cell (at + 1) l (p ∷ []) new h.0, h.1, h.2, rising-with_cell l (p ∷ []) new h.3, h.4, h.5))
    (λ e. (h.0, h.1, h.2, h.3, h.4, h.5))
    (λ e. (h.0, lies-with_cell (at + 1) r (p ∷ []) new h.1, h.2, h.3, rising-with_cell r (p ∷ []) new h.4, h.5))
rising-with_cell (node at part l r c cell) (p ∷ y ∷ ys) new h =
    by_cases IsRising (compare_parts p part) _ _ _
    (λ e. (lies-with_cell (at + 1) l (p ∷ y ∷ ys) new h.0, h.1, h.2, rising-with_cell l (p ∷ y ∷ ys) new h.3, h.4, h.5))
    (λ e. (h.0, h.1, lies-with_cell (at + 1) c (y ∷ ys) new h.2, h.3, h.4, rising-with_cell c (y ∷ ys) new h.5))
    (λ e. (h.0, lies-with_cell (at + 1) r (p ∷ y ∷ ys) new h.1, h.2, h.3, rising-with_cell r (p ∷ y ∷ ys) new h.4, h.5))

-- the words
pub takes-chain : (n : ℕ) (ps : Parts) (place word : ℕ) → Takes (chain n ps place) word → (place ≤ word) × (word < place + node_sizes ps)
takes-chain n [] place word is = absurd is
takes-chain zero (p ∷ ps) place word is = absurd is
takes-chain (suc n) (p ∷ ps) place word is = ⊎_elim
    (λ (own : InNode place p word). let a = own.0 in let b = own.1 in (a, omega arith))
    (λ other. ⊎_elim
    (λ (cell : InCell no_cell word). let a = cell.0 in absurd (omega arith))
    (λ other'. ⊎_elim (λ none. absurd none)
    (λ other''. ⊎_elim (λ none. absurd none)
    (λ below. let rest = takes-chain n ps (place + node_size p) word below in let a = rest.0 in let b = rest.1 in (omega arith, omega arith))
    other'') other') other)
    is

pub drop_more : (k : ℕ) (p : List ℕ) (ps : Parts) → drop (1 + k) (p ∷ ps) ≡ drop k ps
drop_more k p ps = let e : 1 + k ≡ suc k = omega arith in ap (λ (n : ℕ). drop n (p ∷ ps)) e

-- the words that growth adds
abbrev pub IsNew : Tree → Parts → ℕ → ℕ → Type 0
IsNew t ps place word = (place ≤ word) × (word < place + node_sizes (drop (depth t ps) ps))

pub takes-grown : (n : ℕ) (t : Tree) (ps : Parts) (place word : ℕ) → Takes (grown n t ps place) word → Takes t word ⊎ IsNew t ps place word
takes-grown n leaf ps place word is = inr (takes-chain n ps place word is)
takes-grown n (node at part l r c cell) [] place word is = inl is
takes-grown n (node at part l r c cell) (p ∷ ps) place word is =
    elim (compare_parts p part) as (λ o.
    Takes (by_order o (node at part (grown n l (p ∷ ps) place) r c cell) (node at part l r (grown n c ps place) cell) (node at part l (grown n r (p ∷ ps) place) c cell)) word
    → Takes (node at part l r c cell) word ⊎ ((place ≤ word) × (word < place + node_sizes (drop (by_order o (depth l (p ∷ ps)) (1 + depth c ps) (depth r (p ∷ ps))) (p ∷ ps))))) [
      | Less ↦ λ is. ⊎_elim (λ a. inl (inl a)) (λ b. ⊎_elim (λ a. inl (inr (inl a))) (λ b. ⊎_elim
          (λ a. ⊎_elim (λ old. inl (inr (inr (inl old)))) (λ new. inr new) (takes-grown n l (p ∷ ps) place word a))
          (λ b. inl (inr (inr (inr b)))) b) b) is
      | Equal ↦ λ is. ⊎_elim (λ a. inl (inl a)) (λ b. ⊎_elim (λ a. inl (inr (inl a))) (λ b. ⊎_elim (λ a. inl (inr (inr (inl a)))) (λ b. ⊎_elim (λ a. inl (inr (inr (inr (inl a)))))
          (λ a. ⊎_elim (λ old. inl (inr (inr (inr (inr old)))))
          (λ (new : IsNew c ps place word). inr (new.0, subst (λ (x : Parts). word < place + node_sizes x) (sym (drop_more (depth c ps) p ps)) new.1))
          (takes-grown n c ps place word a)) b) b) b) is
      | Greater ↦ λ is. ⊎_elim (λ a. inl (inl a)) (λ b. ⊎_elim (λ a. inl (inr (inl a))) (λ b. ⊎_elim (λ a. inl (inr (inr (inl a)))) (λ b. ⊎_elim
          (λ a. ⊎_elim (λ old. inl (inr (inr (inr (inl old))))) (λ new. inr new) (takes-grown n r (p ∷ ps) place word a))
          (λ a. inl (inr (inr (inr (inr a))))) b) b) b) is
    ] is

pub takes-with_cell : (t : Tree) (ps : Parts) (new : Cell) (word : ℕ) → Takes (with_cell t ps new) word → Takes t word ⊎ InCell new word
takes-with_cell leaf ps new word is = absurd is
takes-with_cell (node at part l r c cell) [] new word is = inl is
takes-with_cell (node at part l r c cell) (p ∷ []) new word is =
    by_cases (λ t. Takes t word → Takes (node at part l r c cell) word ⊎ InCell new word) (compare_parts p part) _ _ _
    (λ e is. ⊎_elim (λ a. inl (inl a)) (λ b. ⊎_elim (λ a. inl (inr (inl a))) (λ b. ⊎_elim
    (λ a. ⊎_elim (λ old. inl (inr (inr (inl old)))) (λ new. inr new) (takes-with_cell l (p ∷ []) new word a))
    (λ b. inl (inr (inr (inr b)))) b) b) is)
    (λ e is. ⊎_elim (λ a. inl (inl a)) (λ b. ⊎_elim (λ a. inr a) (λ b. inl (inr (inr b))) b) is)
    (λ e is. ⊎_elim (λ a. inl (inl a)) (λ b. ⊎_elim (λ a. inl (inr (inl a))) (λ b. ⊎_elim (λ a. inl (inr (inr (inl a)))) (λ b. ⊎_elim
    (λ a. ⊎_elim (λ old. inl (inr (inr (inr (inl old))))) (λ new. inr new) (takes-with_cell r (p ∷ []) new word a))
    (λ a. inl (inr (inr (inr (inr a))))) b) b) b) is)
    is
takes-with_cell (node at part l r c cell) (p ∷ y ∷ ys) new word is =
    by_cases (λ t. Takes t word → Takes (node at part l r c cell) word ⊎ InCell new word) (compare_parts p part) _ _ _
    (λ e is. ⊎_elim (λ a. inl (inl a)) (λ b. ⊎_elim (λ a. inl (inr (inl a))) (λ b. ⊎_elim
    (λ a. ⊎_elim (λ old. inl (inr (inr (inl old)))) (λ new. inr new) (takes-with_cell l (p ∷ y ∷ ys) new word a))
    (λ b. inl (inr (inr (inr b)))) b) b) is)
    (λ e is. ⊎_elim (λ a. inl (inl a)) (λ b. ⊎_elim (λ a. inl (inr (inl a))) (λ b. ⊎_elim (λ a. inl (inr (inr (inl a)))) (λ b. ⊎_elim (λ a. inl (inr (inr (inr (inl a)))))
    (λ a. ⊎_elim (λ old. inl (inr (inr (inr (inr old))))) (λ new. inr new) (takes-with_cell c (y ∷ ys) new word a)) b) b) b) is)
    (λ e is. ⊎_elim (λ a. inl (inl a)) (λ b. ⊎_elim (λ a. inl (inr (inl a))) (λ b. ⊎_elim (λ a. inl (inr (inr (inl a)))) (λ b. ⊎_elim
    (λ a. ⊎_elim (λ old. inl (inr (inr (inr (inl old))))) (λ new. inr new) (takes-with_cell r (p ∷ y ∷ ys) new word a))
    (λ a. inl (inr (inr (inr (inr a))))) b) b) b) is)
    is

-- the cells are wide
wide-chain : (n : ℕ) (ps : Parts) (place : ℕ) → HasWideCells (chain n ps place)
wide-chain n [] place = tt
wide-chain zero (p ∷ ps) place = tt
wide-chain (suc n) (p ∷ ps) place = ((λ some. absurd (some refl)), tt, tt, wide-chain n ps (place + node_size p))

pub wide-grown : (n : ℕ) (t : Tree) (ps : Parts) (place : ℕ) → HasWideCells t → HasWideCells (grown n t ps place)
wide-grown n leaf ps place h = wide-chain n ps place
wide-grown n (node at part l r c cell) [] place h = h
wide-grown n (node at part l r c cell) (p ∷ ps) place h =
    by_cases HasWideCells (compare_parts p part) _ _ _
    (λ e. (h.0, wide-grown n l (p ∷ ps) place h.1, h.2, h.3))
    (λ e. (h.0, h.1, h.2, wide-grown n c ps place h.3))
    (λ e. (h.0, h.1, wide-grown n r (p ∷ ps) place h.2, h.3))

pub wide-with_cell : (t : Tree) (ps : Parts) (new : Cell) → 13 ≤ new.words → HasWideCells t → HasWideCells (with_cell t ps new)
wide-with_cell leaf ps new wide h = tt
wide-with_cell (node at part l r c cell) [] new wide h = h
wide-with_cell (node at part l r c cell) (p ∷ []) new wide h =
    by_cases HasWideCells (compare_parts p part) _ _ _
    (λ e. (h.0, wide-with_cell l (p ∷ []) new wide h.1, h.2, h.3)) (λ e. ((λ some. wide), h.1, h.2, h.3)) (λ e. (h.0, h.1, wide-with_cell r (p ∷ []) new wide h.2, h.3))
wide-with_cell (node at part l r c cell) (p ∷ y ∷ ys) new wide h =
    by_cases HasWideCells (compare_parts p part) _ _ _
    (λ e. (h.0, wide-with_cell l (p ∷ y ∷ ys) new wide h.1, h.2, h.3))
    (λ e. (h.0, h.1, h.2, wide-with_cell c (y ∷ ys) new wide h.3))
    (λ e. (h.0, h.1, wide-with_cell r (p ∷ y ∷ ys) new wide h.2, h.3))

pub wide_cell : (t : Tree) (ps : Parts) → HasWideCells t → (cell_in t ps).place ≢ 0 → 13 ≤ (cell_in t ps).words
wide_cell leaf ps h some = absurd (some refl)
wide_cell (node at part l r c cell) [] h some = absurd (some refl)
wide_cell (node at part l r c cell) (p ∷ []) h some =
    by_cases (λ (x : Cell). x.place ≢ 0 → 13 ≤ x.words) (compare_parts p part) _ _ _ (λ e. wide_cell l (p ∷ []) h.1) (λ e. h.0) (λ e. wide_cell r (p ∷ []) h.2) some
wide_cell (node at part l r c cell) (p ∷ y ∷ ys) h some =
    by_cases (λ (x : Cell). x.place ≢ 0 → 13 ≤ x.words) (compare_parts p part) _ _ _ (λ e. wide_cell l (p ∷ y ∷ ys) h.1) (λ e. wide_cell c (y ∷ ys) h.3) (λ e. wide_cell r (p ∷ y ∷ ys) h.2) some

-- a cell has at least 13 words
pub cell_wide : (len : ℕ) → 13 ≤ cell_words len
cell_wide len = ⊎_elim
    (λ (short : nat_le len 91 ≡ true). let is : cell_words len ≡ 13 = ap (λ (b : Bool). if b then 13 else 2 + (len + 7) / 8) short in omega arith)
    (λ (long : nat_le len 91 ≡ false). let is : cell_words len ≡ 2 + (len + 7) / 8 = ap (λ (b : Bool). if b then 13 else 2 + (len + 7) / 8) long in
    let more : 91 < len = past len long in omega arith)
    (cases_Bool (nat_le len 91))
  where
    past : (len : ℕ) → nat_le len 91 ≡ false → 91 < len
    past len f = grind (arith, nat_tests)
