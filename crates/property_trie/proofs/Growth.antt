-- What growth and a new cell change of a tree: the nodes of the parts, and the one cell.
use Rattle.std.proofs.Common.{◌≡◌, ℕ, zero, suc, ◌+◌, ◌≤◌, min, max, List, [], ◌∷◌, length, sym, refl, ap, ◌∙◌, ⊎_elim, arith}
use Rattle.std.specs.declared.cmp.Ordering.{Ordering}
use Rattle.std.specs.declared.cmp.Ordering.TheVariants.{Less, Equal, Greater}
use Rattle.property_trie.specs.Parts.{compare_parts, node_size}
use Rattle.property_trie.specs.Tree.{Tree, Cell, no_cell, by_order, alike, at_last, cell_in, find, depth, chain, grown, with_cell}
use Rattle.property_trie.specs.Tree.Tree.{leaf, node}
use Rattle.property_trie.proofs.Orders.{same_part, compare_same, by_cases, at_less, at_equal, at_greater, orders}

abbrev Parts : Type 0
Parts = List (List ℕ)

pub depth_short : (t : Tree) (parts : Parts) → depth t parts ≤ length parts
depth_short leaf parts = omega arith
depth_short (node place part l r c cell) [] = omega arith
depth_short (node place part l r c cell) (p ∷ ps) =
    by_cases (λ d. d ≤ length (p ∷ ps)) (compare_parts p part) _ _ _
    (λ e. depth_short l (p ∷ ps))
    (λ e. let rest = depth_short c ps in omega arith)
    (λ e. depth_short r (p ∷ ps))

pub alike_short : (parts others : Parts) → alike parts others ≤ length parts
alike_short [] others = omega arith
alike_short (p ∷ ps) [] = omega arith
alike_short (p ∷ ps) (q ∷ qs) =
    by_cases (λ d. d ≤ length (p ∷ ps)) (compare_parts q p) _ _ _
    (λ e. omega arith)
    (λ e. let rest = alike_short ps qs in omega arith)
    (λ e. omega arith)

-- names whose first parts differ begin with none alike
pub alike_none : (p q : List ℕ) (ps qs : Parts) → (q ≡ p → ⊥) → alike (p ∷ ps) (q ∷ qs) ≡ 0
alike_none p q ps qs other =
    by_cases (λ d. d ≡ 0) (compare_parts q p) _ _ _ (λ e. refl) (λ e. absurd (other (same_part q p e))) (λ e. refl)

pub alike_one : (p q : List ℕ) (ps qs : Parts) → q ≡ p → alike (p ∷ ps) (q ∷ qs) ≡ 1 + alike ps qs
alike_one p q ps qs is =
    at_equal (compare_parts q p) 0 (1 + alike ps qs) 0 (ap (λ (x : List ℕ). compare_parts x p) is ∙ compare_same p)

none_at_last : (qs : Parts) (more : Cell) → more ≡ no_cell → at_last qs no_cell more ≡ no_cell
none_at_last [] more e = refl
none_at_last (q ∷ qs) more e = e

cell-chain : (n : ℕ) (parts : Parts) (place : ℕ) (others : Parts) → cell_in (chain n parts place) others ≡ no_cell
cell-chain n [] place others = refl
cell-chain zero (p ∷ ps) place others = refl
cell-chain (suc n) (p ∷ ps) place [] = refl
cell-chain (suc n) (p ∷ ps) place (q ∷ qs) =
    by_cases (λ d. d ≡ no_cell) (compare_parts q p) _ _ _ (λ e. refl)
    (λ e. none_at_last qs (cell_in (chain n ps (place + node_size p)) qs) (cell-chain n ps (place + node_size p) qs))
    (λ e. refl)

-- growth changes no cell
pub cell-grown : (n : ℕ) (t : Tree) (parts : Parts) (place : ℕ) (others : Parts) → cell_in (grown n t parts place) others ≡ cell_in t others
cell-grown n leaf parts place others = cell-chain n parts place others
cell-grown n (node at part l r c cell) [] place others = refl
cell-grown n (node at part l r c cell) (p ∷ ps) place [] =
    by_cases (λ t. cell_in t [] ≡ no_cell) (compare_parts p part) _ _ _ (λ e. refl) (λ e. refl) (λ e. refl)
cell-grown n (node at part l r c cell) (p ∷ ps) place (q ∷ qs) =
    by_cases (λ t. cell_in t (q ∷ qs) ≡ cell_in (node at part l r c cell) (q ∷ qs)) (compare_parts p part) _ _ _
    (λ e. ap (λ x. by_order (compare_parts q part) x (at_last qs cell (cell_in c qs)) (cell_in r (q ∷ qs))) (cell-grown n l (p ∷ ps) place (q ∷ qs)))
    (λ e. ap (λ x. by_order (compare_parts q part) (cell_in l (q ∷ qs)) (at_last qs cell x) (cell_in r (q ∷ qs))) (cell-grown n c ps place qs))
    (λ e. ap (λ x. by_order (compare_parts q part) (cell_in l (q ∷ qs)) (at_last qs cell (cell_in c qs)) x) (cell-grown n r (p ∷ ps) place (q ∷ qs)))

depth-chain : (n : ℕ) (parts : Parts) (place : ℕ) (others : Parts) → depth (chain n parts place) others ≡ min (alike parts others) n
depth-chain n [] place others = omega arith
depth-chain zero (p ∷ ps) place others = omega arith
depth-chain (suc n) (p ∷ ps) place [] = omega arith
depth-chain (suc n) (p ∷ ps) place (q ∷ qs) = ⊎_elim
    (λ (less : compare_parts q p ≡ Less).
    at_less (compare_parts q p) _ _ _ less ∙ (omega (arith, at_less (compare_parts q p) 0 (1 + alike ps qs) 0 less)))
    (⊎_elim
    (λ (equal : compare_parts q p ≡ Equal).
    let rest = depth-chain n ps (place + node_size p) qs in
    at_equal (compare_parts q p) _ _ _ equal ∙ (omega (arith, at_equal (compare_parts q p) 0 (1 + alike ps qs) 0 equal)))
    (λ (greater : compare_parts q p ≡ Greater).
    at_greater (compare_parts q p) _ _ _ greater ∙ (omega (arith, at_greater (compare_parts q p) 0 (1 + alike ps qs) 0 greater))))
    (orders (compare_parts q p))

-- one of three is changed, as its own growth says, and the others only where nothing is alike
changed_less : (o : Ordering) (new old equal greater same k : ℕ) → (o ≡ Less → new ≡ max old (min same k)) → ((o ≡ Less → ⊥) → same ≡ 0)
    → by_order o new equal greater ≡ max (by_order o old equal greater) (min same k)
changed_less Less new old equal greater same k grows none = grows refl
changed_less Equal new old equal greater same k grows none = let z = none (λ e. cc) in omega arith
changed_less Greater new old equal greater same k grows none = let z = none (λ e. cc) in omega arith

changed_equal : (o : Ordering) (less new old greater same k : ℕ) → (o ≡ Equal → 1 + new ≡ max (1 + old) (min same k)) → ((o ≡ Equal → ⊥) → same ≡ 0)
    → by_order o less (1 + new) greater ≡ max (by_order o less (1 + old) greater) (min same k)
changed_equal Less less new old greater same k grows none = let z = none (λ e. cc) in omega arith
changed_equal Equal less new old greater same k grows none = grows refl
changed_equal Greater less new old greater same k grows none = let z = none (λ e. cc) in omega arith

changed_greater : (o : Ordering) (less equal new old same k : ℕ) → (o ≡ Greater → new ≡ max old (min same k)) → ((o ≡ Greater → ⊥) → same ≡ 0)
    → by_order o less equal new ≡ max (by_order o less equal old) (min same k)
changed_greater Less less equal new old same k grows none = let z = none (λ e. cc) in omega arith
changed_greater Equal less equal new old same k grows none = let z = none (λ e. cc) in omega arith
changed_greater Greater less equal new old same k grows none = grows refl

-- growth makes nodes of the first n of the parts that had none
pub depth-grown : (n : ℕ) (t : Tree) (parts : Parts) (place : ℕ) (others : Parts)
    → depth (grown n t parts place) others ≡ max (depth t others) (min (alike parts others) (depth t parts + n))
depth-grown n leaf parts place others = let d = depth-chain n parts place others in omega arith
depth-grown n (node at part l r c cell) [] place others = omega arith
depth-grown n (node at part l r c cell) (p ∷ ps) place [] =
    by_cases (λ t. depth t [] ≡ max 0 (min 0 (depth (node at part l r c cell) (p ∷ ps) + n))) (compare_parts p part) _ _ _ (λ e. omega arith) (λ e. omega arith) (λ e. omega arith)
depth-grown n (node at part l r c cell) (p ∷ ps) place (q ∷ qs) =
    let apart : (o : Ordering) → compare_parts p part ≡ o → (compare_parts q part ≡ o → ⊥) → alike (p ∷ ps) (q ∷ qs) ≡ 0 =
    λ o e other. alike_none p q ps qs (λ is. other (ap (λ (x : List ℕ). compare_parts x part) is ∙ e)) in
    elim (compare_parts p part) as (λ o. compare_parts p part ≡ o
    → depth (by_order o (node at part (grown n l (p ∷ ps) place) r c cell) (node at part l r (grown n c ps place) cell) (node at part l (grown n r (p ∷ ps) place) c cell)) (q ∷ qs)
    ≡ max (depth (node at part l r c cell) (q ∷ qs)) (min (alike (p ∷ ps) (q ∷ qs)) (by_order o (depth l (p ∷ ps)) (1 + depth c ps) (depth r (p ∷ ps)) + n))) [
      | Less ↦ λ e. changed_less (compare_parts q part) (depth (grown n l (p ∷ ps) place) (q ∷ qs)) (depth l (q ∷ qs)) (1 + depth c qs) (depth r (q ∷ qs)) (alike (p ∷ ps) (q ∷ qs)) (depth l (p ∷ ps) + n)
          (λ e'. depth-grown n l (p ∷ ps) place (q ∷ qs)) (apart Less e)
      | Equal ↦ λ e. changed_equal (compare_parts q part) (depth l (q ∷ qs)) (depth (grown n c ps place) qs) (depth c qs) (depth r (q ∷ qs)) (alike (p ∷ ps) (q ∷ qs)) (1 + depth c ps + n)
          (λ e'. let is : q ≡ p = same_part q part e' ∙ sym (same_part p part e) in
          let one = alike_one p q ps qs is in let rest = depth-grown n c ps place qs in omega arith) (apart Equal e)
      | Greater ↦ λ e. changed_greater (compare_parts q part) (depth l (q ∷ qs)) (1 + depth c qs) (depth (grown n r (p ∷ ps) place) (q ∷ qs)) (depth r (q ∷ qs)) (alike (p ∷ ps) (q ∷ qs)) (depth r (p ∷ ps) + n)
          (λ e'. depth-grown n r (p ∷ ps) place (q ∷ qs)) (apart Greater e)
    ] refl

-- a new cell makes no node
pub depth-with_cell : (t : Tree) (parts : Parts) (new : Cell) (others : Parts) → depth (with_cell t parts new) others ≡ depth t others
depth-with_cell leaf parts new others = refl
depth-with_cell (node at part l r c cell) [] new others = refl
depth-with_cell (node at part l r c cell) (p ∷ []) new [] = by_cases (λ t. depth t [] ≡ 0) (compare_parts p part) _ _ _ (λ e. refl) (λ e. refl) (λ e. refl)
depth-with_cell (node at part l r c cell) (p ∷ y ∷ ys) new [] = by_cases (λ t. depth t [] ≡ 0) (compare_parts p part) _ _ _ (λ e. refl) (λ e. refl) (λ e. refl)
depth-with_cell (node at part l r c cell) (p ∷ []) new (q ∷ qs) =
    by_cases (λ t. depth t (q ∷ qs) ≡ depth (node at part l r c cell) (q ∷ qs)) (compare_parts p part) _ _ _
    (λ e. ap (λ x. by_order (compare_parts q part) x (1 + depth c qs) (depth r (q ∷ qs))) (depth-with_cell l (p ∷ []) new (q ∷ qs)))
    (λ e. refl)
    (λ e. ap (λ x. by_order (compare_parts q part) (depth l (q ∷ qs)) (1 + depth c qs) x) (depth-with_cell r (p ∷ []) new (q ∷ qs)))
depth-with_cell (node at part l r c cell) (p ∷ y ∷ ys) new (q ∷ qs) =
    by_cases (λ t. depth t (q ∷ qs) ≡ depth (node at part l r c cell) (q ∷ qs)) (compare_parts p part) _ _ _
    (λ e. ap (λ x. by_order (compare_parts q part) x (1 + depth c qs) (depth r (q ∷ qs))) (depth-with_cell l (p ∷ y ∷ ys) new (q ∷ qs)))
    (λ e. ap (λ x. by_order (compare_parts q part) (depth l (q ∷ qs)) (1 + x) (depth r (q ∷ qs))) (depth-with_cell c (y ∷ ys) new qs))
    (λ e. ap (λ x. by_order (compare_parts q part) (depth l (q ∷ qs)) (1 + depth c qs) x) (depth-with_cell r (p ∷ y ∷ ys) new (q ∷ qs)))

same_where : {A : Type 0} (o : Ordering) (less equal equal' greater : A) → (o ≡ Equal → equal ≡ equal') → by_order o less equal greater ≡ by_order o less equal' greater
same_where Less less equal equal' greater same = refl
same_where Equal less equal equal' greater same = same refl
same_where Greater less equal equal' greater same = refl

-- a new cell changes no other property
pub cell-with_cell_other : (t : Tree) (parts : Parts) (new : Cell) (others : Parts) → (others ≡ parts → ⊥) → cell_in (with_cell t parts new) others ≡ cell_in t others
cell-with_cell_other leaf parts new others other = refl
cell-with_cell_other (node at part l r c cell) [] new others other = refl
cell-with_cell_other (node at part l r c cell) (p ∷ []) new [] other = by_cases (λ t. cell_in t [] ≡ no_cell) (compare_parts p part) _ _ _ (λ e. refl) (λ e. refl) (λ e. refl)
cell-with_cell_other (node at part l r c cell) (p ∷ y ∷ ys) new [] other = by_cases (λ t. cell_in t [] ≡ no_cell) (compare_parts p part) _ _ _ (λ e. refl) (λ e. refl) (λ e. refl)
cell-with_cell_other (node at part l r c cell) (p ∷ []) new (q ∷ []) other =
    by_cases (λ t. cell_in t (q ∷ []) ≡ cell_in (node at part l r c cell) (q ∷ [])) (compare_parts p part) _ _ _
    (λ e. ap (λ x. by_order (compare_parts q part) x cell (cell_in r (q ∷ []))) (cell-with_cell_other l (p ∷ []) new (q ∷ []) other))
    (λ e. same_where (compare_parts q part) (cell_in l (q ∷ [])) new cell (cell_in r (q ∷ [])) (λ e'. absurd (other (ap (λ (x : List ℕ). x ∷ []) (same_part q part e' ∙ sym (same_part p part e))))))
    (λ e. ap (λ x. by_order (compare_parts q part) (cell_in l (q ∷ [])) cell x) (cell-with_cell_other r (p ∷ []) new (q ∷ []) other))
cell-with_cell_other (node at part l r c cell) (p ∷ []) new (q ∷ x ∷ xs) other =
    by_cases (λ t. cell_in t (q ∷ x ∷ xs) ≡ cell_in (node at part l r c cell) (q ∷ x ∷ xs)) (compare_parts p part) _ _ _
    (λ e. ap (λ z. by_order (compare_parts q part) z (cell_in c (x ∷ xs)) (cell_in r (q ∷ x ∷ xs))) (cell-with_cell_other l (p ∷ []) new (q ∷ x ∷ xs) other))
    (λ e. refl)
    (λ e. ap (λ z. by_order (compare_parts q part) (cell_in l (q ∷ x ∷ xs)) (cell_in c (x ∷ xs)) z) (cell-with_cell_other r (p ∷ []) new (q ∷ x ∷ xs) other))
cell-with_cell_other (node at part l r c cell) (p ∷ y ∷ ys) new (q ∷ []) other =
    by_cases (λ t. cell_in t (q ∷ []) ≡ cell_in (node at part l r c cell) (q ∷ [])) (compare_parts p part) _ _ _
    (λ e. ap (λ x. by_order (compare_parts q part) x cell (cell_in r (q ∷ []))) (cell-with_cell_other l (p ∷ y ∷ ys) new (q ∷ []) other))
    (λ e. refl)
    (λ e. ap (λ x. by_order (compare_parts q part) (cell_in l (q ∷ [])) cell x) (cell-with_cell_other r (p ∷ y ∷ ys) new (q ∷ []) other))
cell-with_cell_other (node at part l r c cell) (p ∷ y ∷ ys) new (q ∷ x ∷ xs) other =
    by_cases (λ t. cell_in t (q ∷ x ∷ xs) ≡ cell_in (node at part l r c cell) (q ∷ x ∷ xs)) (compare_parts p part) _ _ _
    (λ e. ap (λ z. by_order (compare_parts q part) z (cell_in c (x ∷ xs)) (cell_in r (q ∷ x ∷ xs))) (cell-with_cell_other l (p ∷ y ∷ ys) new (q ∷ x ∷ xs) other))
    (λ e. same_where (compare_parts q part) (cell_in l (q ∷ x ∷ xs)) (cell_in (with_cell c (y ∷ ys) new) (x ∷ xs)) (cell_in c (x ∷ xs)) (cell_in r (q ∷ x ∷ xs))
    (λ e'. cell-with_cell_other c (y ∷ ys) new (x ∷ xs) (λ same. other (λ i. (same_part q part e' ∙ sym (same_part p part e)) i ∷ same i))))
    (λ e. ap (λ z. by_order (compare_parts q part) (cell_in l (q ∷ x ∷ xs)) (cell_in c (x ∷ xs)) z) (cell-with_cell_other r (p ∷ y ∷ ys) new (q ∷ x ∷ xs) other))

-- where all parts have nodes, the new cell is found
pub cell-with_cell_same : (t : Tree) (p : List ℕ) (ps : Parts) (new : Cell) → depth t (p ∷ ps) ≡ length (p ∷ ps) → cell_in (with_cell t (p ∷ ps) new) (p ∷ ps) ≡ new
cell-with_cell_same leaf p ps new all = absurd (omega arith)
cell-with_cell_same (node at part l r c cell) p [] new all =
    by_cases (λ t. by_order (compare_parts p part) (depth l (p ∷ [])) (1 + depth c []) (depth r (p ∷ [])) ≡ 1 → cell_in t (p ∷ []) ≡ new) (compare_parts p part) _ _ _
    (λ e d. at_less (compare_parts p part) _ _ _ e ∙ cell-with_cell_same l p [] new (sym (at_less (compare_parts p part) _ _ _ e) ∙ d))
    (λ e d. at_equal (compare_parts p part) _ _ _ e)
    (λ e d. at_greater (compare_parts p part) _ _ _ e ∙ cell-with_cell_same r p [] new (sym (at_greater (compare_parts p part) _ _ _ e) ∙ d))
    all
cell-with_cell_same (node at part l r c cell) p (y ∷ ys) new all =
    by_cases (λ t. by_order (compare_parts p part) (depth l (p ∷ y ∷ ys)) (1 + depth c (y ∷ ys)) (depth r (p ∷ y ∷ ys)) ≡ length (p ∷ y ∷ ys) → cell_in t (p ∷ y ∷ ys) ≡ new) (compare_parts p part) _ _ _
    (λ e d. at_less (compare_parts p part) _ _ _ e ∙ cell-with_cell_same l p (y ∷ ys) new (sym (at_less (compare_parts p part) _ _ _ e) ∙ d))
    (λ e d. at_equal (compare_parts p part) _ _ _ e ∙ cell-with_cell_same c y ys new (let d' = sym (at_equal (compare_parts p part) (depth l (p ∷ y ∷ ys)) (1 + depth c (y ∷ ys)) (depth r (p ∷ y ∷ ys)) e) ∙ d in omega arith))
    (λ e d. at_greater (compare_parts p part) _ _ _ e ∙ cell-with_cell_same r p (y ∷ ys) new (sym (at_greater (compare_parts p part) _ _ _ e) ∙ d))
    all

-- the same of places
pub find-grown : (n : ℕ) (t : Tree) (parts : Parts) (place : ℕ) (others : Parts) → find (grown n t parts place) others ≡ find t others
find-grown n t parts place others = ap (λ (c : Cell). c.place) (cell-grown n t parts place others)

pub find-with_cell_other : (t : Tree) (parts : Parts) (new : Cell) (others : Parts) → (others ≡ parts → ⊥) → find (with_cell t parts new) others ≡ find t others
find-with_cell_other t parts new others other = ap (λ (c : Cell). c.place) (cell-with_cell_other t parts new others other)

pub find-with_cell_same : (t : Tree) (p : List ℕ) (ps : Parts) (new : Cell) → depth t (p ∷ ps) ≡ length (p ∷ ps) → find (with_cell t (p ∷ ps) new) (p ∷ ps) ≡ new.place
find-with_cell_same t p ps new all = ap (λ (c : Cell). c.place) (cell-with_cell_same t p ps new all)
