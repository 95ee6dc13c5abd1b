-- A tree grows node by node, and each tree that it grows to has all that was in it.
use Rattle.std.proofs.Common.{◌≡◌, ◌≢◌, ℕ, zero, suc, ◌+◌, true, false, ◌==◌, List, [], ◌∷◌, length, take, drop, sym, refl, ap, ◌∙◌, arith}
use Rattle.std.proofs.lemmas.Bool.{eqb-true}
use Rattle.std.specs.Prelude.{if◌then◌else◌}
use Rattle.std.specs.declared.cmp.Ordering.TheVariants.{Less, Equal, Greater}
use Rattle.init_machine.specs.Words.{Sized, cell_words}
use Rattle.property_trie.specs.Parts.{parts_of, compare_parts, node_size}
use Rattle.property_trie.specs.Tree.{Tree, Cell, no_cell, Trie, by_order, cell_in, find, depth, chain, grown, with_cell, node_sizes, cell_place, with_property, added, Extends}
use Rattle.property_trie.specs.Tree.Tree.{leaf, node}
use Rattle.property_trie.proofs.Orders.{compare_same, by_cases, at_less, at_equal, at_greater}
use Rattle.property_trie.proofs.Growth.{find-grown}
use Rattle.property_trie.proofs.Lies.{drop_more}

abbrev Parts : Type 0
Parts = List (List ℕ)

chain_more : (n : ℕ) (ps : Parts) (place : ℕ) → chain (suc n) ps place ≡ grown 1 (chain n ps place) ps (place + node_sizes (take n ps))
chain_more n [] place = refl
chain_more zero (p ∷ ps) place = ap (λ (at : ℕ). chain 1 (p ∷ ps) at) (omega arith)
chain_more (suc n) (p ∷ ps) place =
    let next : ℕ = place + node_size p in
    let there : next + node_sizes (take n ps) ≡ place + (node_size p + node_sizes (take n ps)) = omega arith in
    ap (λ (t : Tree). node place p leaf leaf t no_cell) (chain_more n ps next ∙ ap (λ (at : ℕ). grown 1 (chain n ps next) ps at) there)
    ∙ sym (at_equal (compare_parts p p) _ _ _ (compare_same p))

-- one node more
pub grown_more : (n : ℕ) (t : Tree) (ps : Parts) (place : ℕ)
    → grown (suc n) t ps place ≡ grown 1 (grown n t ps place) ps (place + node_sizes (take n (drop (depth t ps) ps)))
grown_more n leaf ps place = chain_more n ps place
grown_more n (node at part l r c cell) [] place = refl
grown_more n (node at part l r c cell) (p ∷ ps) place =
    elim (compare_parts p part) as (λ o. compare_parts p part ≡ o
    → by_order o (node at part (grown (suc n) l (p ∷ ps) place) r c cell) (node at part l r (grown (suc n) c ps place) cell) (node at part l (grown (suc n) r (p ∷ ps) place) c cell)
    ≡ grown 1 (by_order o (node at part (grown n l (p ∷ ps) place) r c cell) (node at part l r (grown n c ps place) cell) (node at part l (grown n r (p ∷ ps) place) c cell)) (p ∷ ps)
    (place + node_sizes (take n (drop (by_order o (depth l (p ∷ ps)) (1 + depth c ps) (depth r (p ∷ ps))) (p ∷ ps))))) [
      | Less ↦ λ e. ap (λ (t : Tree). node at part t r c cell) (grown_more n l (p ∷ ps) place) ∙ sym (at_less (compare_parts p part) _ _ _ e)
      | Equal ↦ λ e. ap (λ (t : Tree). node at part l r t cell)
          (grown_more n c ps place ∙ ap (λ (x : Parts). grown 1 (grown n c ps place) ps (place + node_sizes (take n x))) (sym (drop_more (depth c ps) p ps)))
          ∙ sym (at_equal (compare_parts p part) _ _ _ e)
      | Greater ↦ λ e. ap (λ (t : Tree). node at part l t c cell) (grown_more n r (p ∷ ps) place) ∙ sym (at_greater (compare_parts p part) _ _ _ e)
    ] refl

pub extends_self : (t : Tree) → Extends t t
extends_self leaf = tt
extends_self (node place part l r c cell) = (refl, refl, extends_self l, extends_self r, extends_self c, λ some. refl)

pub extends_on : (t u v : Tree) → Extends t u → Extends u v → Extends t v
extends_on leaf u v h k = tt
extends_on (node place part l r c cell) leaf v h k = absurd h
extends_on (node place part l r c cell) (node place' part' l' r' c' cell') leaf h k = absurd k
extends_on (node place part l r c cell) (node place' part' l' r' c' cell') (node place'' part'' l'' r'' c'' cell'') h k = (
  k.0 ∙ h.0,
  k.1 ∙ h.1,
  extends_on l l' l'' h.2 k.2,
  extends_on r r' r'' h.3 k.3,
  extends_on c c' c'' h.4 k.4,
  λ some. let e = h.5 some in k.5 (λ none. some (sym (ap (λ (x : Cell). x.place) e) ∙ none)) ∙ e,
)

-- growth extends a tree
pub extends-grown : (n : ℕ) (t : Tree) (ps : Parts) (place : ℕ) → Extends t (grown n t ps place)
extends-grown n leaf ps place = tt
extends-grown n (node at part l r c cell) [] place = extends_self (node at part l r c cell)
extends-grown n (node at part l r c cell) (p ∷ ps) place =
    by_cases (Extends (node at part l r c cell)) (compare_parts p part) _ _ _
    (λ e. (refl, refl, extends-grown n l (p ∷ ps) place, extends_self r, extends_self c, λ some. refl))
    (λ e. (refl, refl, extends_self l, extends_self r, extends-grown n c ps place, λ some. refl))
    (λ e. (refl, refl, extends_self l, extends-grown n r (p ∷ ps) place, extends_self c, λ some. refl))

-- so does a cell where there was none
pub extends-with_cell : (t : Tree) (ps : Parts) (new : Cell) → find t ps ≡ 0 → Extends t (with_cell t ps new)
extends-with_cell leaf ps new none = tt
extends-with_cell (node at part l r c cell) [] new none = extends_self (node at part l r c cell)
extends-with_cell (node at part l r c cell) (p ∷ []) new none =
    by_cases (λ t. (by_order (compare_parts p part) (cell_in l (p ∷ [])) cell (cell_in r (p ∷ []))).place ≡ 0 → Extends (node at part l r c cell) t) (compare_parts p part) _ _ _
    (λ e f. (refl, refl, extends-with_cell l (p ∷ []) new (sym (ap (λ (x : Cell). x.place) (at_less (compare_parts p part) _ _ _ e)) ∙ f), extends_self r, extends_self c, λ some. refl))
    (λ e f. (refl, refl, extends_self l, extends_self r, extends_self c, λ some. absurd (some (sym (ap (λ (x : Cell). x.place) (at_equal (compare_parts p part) _ _ _ e)) ∙ f))))
    (λ e f. (refl, refl, extends_self l, extends-with_cell r (p ∷ []) new (sym (ap (λ (x : Cell). x.place) (at_greater (compare_parts p part) _ _ _ e)) ∙ f), extends_self c, λ some. refl))
    none
extends-with_cell (node at part l r c cell) (p ∷ y ∷ ys) new none =
    by_cases (λ t. (by_order (compare_parts p part) (cell_in l (p ∷ y ∷ ys)) (cell_in c (y ∷ ys)) (cell_in r (p ∷ y ∷ ys))).place ≡ 0 → Extends (node at part l r c cell) t) (compare_parts p part) _ _ _
    (λ e f. (refl, refl, extends-with_cell l (p ∷ y ∷ ys) new (sym (ap (λ (x : Cell). x.place) (at_less (compare_parts p part) _ _ _ e)) ∙ f), extends_self r, extends_self c, λ some. refl))
    (λ e f. (refl, refl, extends_self l, extends_self r, extends-with_cell c (y ∷ ys) new (sym (ap (λ (x : Cell). x.place) (at_equal (compare_parts p part) _ _ _ e)) ∙ f), λ some. refl))
    (λ e f. (refl, refl, extends_self l, extends-with_cell r (p ∷ y ∷ ys) new (sym (ap (λ (x : Cell). x.place) (at_greater (compare_parts p part) _ _ _ e)) ∙ f), extends_self c, λ some. refl))
    none

-- what is found stays found
pub extends-cell : (t u : Tree) (ps : Parts) → Extends t u → find t ps ≢ 0 → cell_in u ps ≡ cell_in t ps
extends-cell leaf u ps h some = absurd (some refl)
extends-cell (node place part l r c cell) leaf ps h some = absurd h
extends-cell (node place part l r c cell) (node place' part' l' r' c' cell') [] h some = absurd (some refl)
extends-cell (node place part l r c cell) (node place' part' l' r' c' cell') (p ∷ []) h some =
    ap (λ (x : List ℕ). by_order (compare_parts p x) (cell_in l' (p ∷ [])) cell' (cell_in r' (p ∷ []))) h.1
    ∙ (elim (compare_parts p part) as (λ o. (by_order o (cell_in l (p ∷ [])) cell (cell_in r (p ∷ []))).place ≢ 0
    → by_order o (cell_in l' (p ∷ [])) cell' (cell_in r' (p ∷ [])) ≡ by_order o (cell_in l (p ∷ [])) cell (cell_in r (p ∷ []))) [
      | Less ↦ λ s. extends-cell l l' (p ∷ []) h.2 s
      | Equal ↦ λ s. h.5 s
      | Greater ↦ λ s. extends-cell r r' (p ∷ []) h.3 s
    ] some)
extends-cell (node place part l r c cell) (node place' part' l' r' c' cell') (p ∷ y ∷ ys) h some =
    ap (λ (x : List ℕ). by_order (compare_parts p x) (cell_in l' (p ∷ y ∷ ys)) (cell_in c' (y ∷ ys)) (cell_in r' (p ∷ y ∷ ys))) h.1
    ∙ (elim (compare_parts p part) as (λ o. (by_order o (cell_in l (p ∷ y ∷ ys)) (cell_in c (y ∷ ys)) (cell_in r (p ∷ y ∷ ys))).place ≢ 0
    → by_order o (cell_in l' (p ∷ y ∷ ys)) (cell_in c' (y ∷ ys)) (cell_in r' (p ∷ y ∷ ys)) ≡ by_order o (cell_in l (p ∷ y ∷ ys)) (cell_in c (y ∷ ys)) (cell_in r (p ∷ y ∷ ys))) [
      | Less ↦ λ s. extends-cell l l' (p ∷ y ∷ ys) h.2 s
      | Equal ↦ λ s. extends-cell c c' (y ∷ ys) h.4 s
      | Greater ↦ λ s. extends-cell r r' (p ∷ y ∷ ys) h.3 s
    ] some)

pub extends-find : (t u : Tree) (ps : Parts) → Extends t u → find t ps ≢ 0 → find u ps ≡ find t ps
extends-find t u ps h some = ap (λ (x : Cell). x.place) (extends-cell t u ps h some)

-- a name that comes extends the trie
pub extends-added : (trie : Trie) (sized : Sized) → Extends trie.tree (added trie sized).tree
extends-added trie sized =
    let ps = parts_of sized.0 in
    let words : ℕ = cell_words sized.1 in
    let new : Cell = record { place = cell_place trie ps; words = words } in
    let wider : Tree = grown (length ps) trie.tree ps trie.mark in
    elim (find trie.tree ps == 0) as (λ t. (find trie.tree ps == 0) ≡ t → Extends trie.tree (let more : Trie = if t then with_property trie ps words else trie in more.tree)) [
      | true ↦ λ e. extends_on trie.tree wider (with_cell wider ps new) (extends-grown (length ps) trie.tree ps trie.mark)
          (extends-with_cell wider ps new (find-grown (length ps) trie.tree ps trie.mark ps ∙ eqb-true (find trie.tree ps) 0 e))
      | false ↦ λ e. extends_self trie.tree
    ] refl
