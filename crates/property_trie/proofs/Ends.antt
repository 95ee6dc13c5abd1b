-- The levels of a trie: where a part is linked that a level hasn't, and what an addition changes.
use Rattle.std.proofs.Common.{◌≡◌, ◌≢◌, ℕ, zero, suc, ◌+◌, ⊎_elim, List, [], ◌∷◌, ◌++◌, length, Option, Some, sym, refl, ap, ◌∙◌, subst, arith}
use Rattle.std.specs.Option.{unwrap_or}
use Rattle.std.specs.declared.cmp.Ordering.TheVariants.{Less, Equal, Greater}
use Rattle.property_trie.specs.Parts.{compare_parts, node_size}
use Rattle.property_trie.specs.Siblings.{Placed, Siblings, IsFreeAt, nodes_in, siblings_of, with_node}
use Rattle.property_trie.specs.Tree.{Tree, Cell, depth, chain, grown, with_cell}
use Rattle.property_trie.specs.Tree.Tree.{leaf, node}
use Rattle.property_trie.specs.TreeWords.{link_at}
use Rattle.property_trie.specs.Places.{IsOrdered, IsRising}
use Rattle.property_trie.specs.Levels.{level_in}
use Rattle.property_trie.proofs.Gaps.{grown_level, linked_free}
use Rattle.property_trie.proofs.Orders.{same_part, compare_same, by_cases, at_less, at_equal, at_greater, orders}

abbrev Parts : Type 0
Parts = List (List ℕ)

one_more : (n : ℕ) → 1 + n ≡ suc n
one_more n = omega arith

some_is : (a b : Siblings) → Some a ≡ Some b → a ≡ b
some_is a b e = ap (λ (o : Option Siblings). unwrap_or o a) e

top_level : (top : ℕ) (t : Tree) → level_in top t [] ≡ Some (siblings_of top t)
top_level top leaf = refl
top_level top (node at part left right children cell) = refl

-- ---- a part that the level hasn't

abbrev LinkedThere : ℕ → Tree → Parts → List ℕ → Parts → ℕ → Type 0
LinkedThere top t qs k ps link = (link_at top t (qs ++ k ∷ ps) ≡ link) × (depth t (qs ++ k ∷ ps) ≡ length qs)

-- a name whose first missing part has a place in a level is linked there
pub linked_in_level : (top : ℕ) (t : Tree) (qs : Parts) (s : Siblings) (k : List ℕ) (ps : Parts) (link : ℕ) → IsOrdered t → IsRising t → level_in top t qs ≡ Some s → IsFreeAt k s link
    → LinkedThere top t qs k ps link
linked_in_level top t [] s k ps link ord rise is free =
    linked_free top t k ps link ord rise (subst (λ (x : Siblings). IsFreeAt k x link) (sym (some_is (siblings_of top t) s (sym (top_level top t) ∙ is))) free)
linked_in_level top leaf (q ∷ qs) s k ps link ord rise is free = absurd (cc)
linked_in_level top (node place part left right children cell) (q ∷ qs) s k ps link ord rise is free =
    ⊎_elim
    (λ (l : compare_parts q part ≡ Less).
    let more = linked_in_level (place + 1) left (q ∷ qs) s k ps link ord.2 rise.3 (sym (at_less (compare_parts q part) _ _ _ l) ∙ is) free in
    (at_less (compare_parts q part) _ _ _ l ∙ more.0, at_less (compare_parts q part) _ _ _ l ∙ more.1))
    (⊎_elim
    (λ (e : compare_parts q part ≡ Equal).
    let more = linked_in_level (place + 3) children qs s k ps link ord.4 rise.5 (sym (at_equal (compare_parts q part) _ _ _ e) ∙ is) free in
    (at_equal (compare_parts q part) _ _ _ e ∙ more.0, at_equal (compare_parts q part) _ _ _ e ∙ ap (λ (n : ℕ). 1 + n) more.1 ∙ one_more (length qs)))
    (λ (g : compare_parts q part ≡ Greater).
    let more = linked_in_level (place + 2) right (q ∷ qs) s k ps link ord.3 rise.4 (sym (at_greater (compare_parts q part) _ _ _ g) ∙ is) free in
    (at_greater (compare_parts q part) _ _ _ g ∙ more.0, at_greater (compare_parts q part) _ _ _ g ∙ more.1)))
    (orders (compare_parts q part))

-- ---- an addition, at the level that it adds to

-- of which each later level is that of the same front
module _ (top : ℕ) (at : ℕ) (part : List ℕ) (left right children : Tree) (cell : Cell) (q : List ℕ) (qs : Parts) where
  level_less : compare_parts q part ≡ Less → level_in top (node at part left right children cell) (q ∷ qs) ≡ level_in (at + 1) left (q ∷ qs)
  level_less l = at_less (compare_parts q part) _ _ _ l

  level_equal : compare_parts q part ≡ Equal → level_in top (node at part left right children cell) (q ∷ qs) ≡ level_in (at + 3) children qs
  level_equal s = at_equal (compare_parts q part) _ _ _ s

  level_greater : compare_parts q part ≡ Greater → level_in top (node at part left right children cell) (q ∷ qs) ≡ level_in (at + 2) right (q ∷ qs)
  level_greater g = at_greater (compare_parts q part) _ _ _ g

not_zero : (n : ℕ) → 1 + n ≡ 0 → ⊥
not_zero n e = omega arith

one_less : (n m : ℕ) → 1 + n ≡ suc m → n ≡ m
one_less n m e = omega arith

pub grown_here : (n top : ℕ) (t : Tree) (fs : Parts) (p : List ℕ) (rest : Parts) (place : ℕ) (s : Siblings) → IsOrdered t → depth t (fs ++ p ∷ rest) ≡ length fs → level_in top t fs ≡ Some s
    → level_in top (grown (suc n) t (fs ++ p ∷ rest) place) fs ≡ Some (with_node p place s)
grown_here n top t [] p rest place s ord deep is =
    top_level top (grown (suc n) t (p ∷ rest) place)
    ∙ ap (λ ns. Some (record { link = top; nodes = ns })) (grown_level n t p rest place ord deep)
    ∙ ap (λ (x : Siblings). Some (with_node p place x)) (some_is (siblings_of top t) s (sym (top_level top t) ∙ is))
grown_here n top leaf (f ∷ fs) p rest place s ord deep is = absurd (cc)
grown_here n top (node at part left right children cell) (f ∷ fs) p rest place s ord deep is =
    by_cases (λ (g : Tree). level_in top g (f ∷ fs) ≡ Some (with_node p place s)) (compare_parts f part) _ _ _
    (λ l. level_less top at part (grown (suc n) left (f ∷ fs ++ p ∷ rest) place) right children cell f fs l
    ∙ grown_here n (at + 1) left (f ∷ fs) p rest place s ord.2 (sym (at_less (compare_parts f part) _ _ _ l) ∙ deep) (sym (level_less top at part left right children cell f fs l) ∙ is))
    (λ e. level_equal top at part left right (grown (suc n) children (fs ++ p ∷ rest) place) cell f fs e
    ∙ grown_here n (at + 3) children fs p rest place s ord.4 (one_less (depth children (fs ++ p ∷ rest)) (length fs) (sym (at_equal (compare_parts f part) _ _ _ e) ∙ deep))
    (sym (level_equal top at part left right children cell f fs e) ∙ is))
    (λ g. level_greater top at part left (grown (suc n) right (f ∷ fs ++ p ∷ rest) place) children cell f fs g
    ∙ grown_here n (at + 2) right (f ∷ fs) p rest place s ord.3 (sym (at_greater (compare_parts f part) _ _ _ g) ∙ deep) (sym (level_greater top at part left right children cell f fs g) ∙ is))

-- ---- an addition, at other levels

-- a level that the addition goes through keeps its siblings
goes_through : (n : ℕ) (t : Tree) (x : List ℕ) (xs : Parts) (place d : ℕ) → depth t (x ∷ xs) ≡ suc d → nodes_in (grown n t (x ∷ xs) place) ≡ nodes_in t
goes_through n leaf x xs place d deep = absurd (cc)
goes_through n (node at part left right children cell) x xs place d deep =
    by_cases (λ (g : Tree). nodes_in g ≡ nodes_in left ++ (part, at) ∷ nodes_in right) (compare_parts x part) _ _ _
    (λ l. ap (λ (ns : List Placed). ns ++ (part, at) ∷ nodes_in right) (goes_through n left x xs place d (sym (at_less (compare_parts x part) _ _ _ l) ∙ deep)))
    (λ s. refl)
    (λ g. ap (λ (ns : List Placed). nodes_in left ++ (part, at) ∷ ns) (goes_through n right x xs place d (sym (at_greater (compare_parts x part) _ _ _ g) ∙ deep)))

pub grown_elsewhere : (n top : ℕ) (t : Tree) (fs : Parts) (p : List ℕ) (rest qs : Parts) (place : ℕ) (e : Siblings) → depth t (fs ++ p ∷ rest) ≡ length fs → qs ≢ fs
    → level_in top t qs ≡ Some e → level_in top (grown n t (fs ++ p ∷ rest) place) qs ≡ Some e
grown_elsewhere n top leaf [] p rest [] place e deep other is = absurd (other refl)
grown_elsewhere n top leaf [] p rest (q ∷ qs) place e deep other is = absurd (cc)
grown_elsewhere n top leaf (f ∷ fs) p rest qs place e deep other is = absurd (cc)
grown_elsewhere n top (node at part left right children cell) [] p rest [] place e deep other is = absurd (other refl)
grown_elsewhere n top (node at part left right children cell) [] p rest (q ∷ qs) place e deep other is =
    by_cases (λ (g : Tree). level_in top g (q ∷ qs) ≡ Some e) (compare_parts p part) _ _ _
    (λ l. kept left (λ e' is'. grown_elsewhere n (at + 1) left [] p rest (q ∷ qs) place e' (sym (at_less (compare_parts p part) _ _ _ l) ∙ deep) other is'))
    (λ s. absurd (not_zero (depth children rest) (sym (at_equal (compare_parts p part) _ _ _ s) ∙ deep)))
    (λ g. kept_right (λ e' is'. grown_elsewhere n (at + 2) right [] p rest (q ∷ qs) place e' (sym (at_greater (compare_parts p part) _ _ _ g) ∙ deep) other is'))
  where
    kept : (l : Tree) → ((e' : Siblings) → level_in (at + 1) left (q ∷ qs) ≡ Some e' → level_in (at + 1) (grown n l (p ∷ rest) place) (q ∷ qs) ≡ Some e')
        → level_in top (node at part (grown n l (p ∷ rest) place) right children cell) (q ∷ qs) ≡ Some e
    kept l more = ⊎_elim
        (λ (lo : compare_parts q part ≡ Less).
        level_less top at part (grown n l (p ∷ rest) place) right children cell q qs lo ∙ more e (sym (level_less top at part left right children cell q qs lo) ∙ is))
        (⊎_elim
        (λ (same : compare_parts q part ≡ Equal).
        level_equal top at part (grown n l (p ∷ rest) place) right children cell q qs same ∙ sym (level_equal top at part left right children cell q qs same) ∙ is)
        (λ (hi : compare_parts q part ≡ Greater).
        level_greater top at part (grown n l (p ∷ rest) place) right children cell q qs hi ∙ sym (level_greater top at part left right children cell q qs hi) ∙ is))
        (orders (compare_parts q part))

    kept_right : ((e' : Siblings) → level_in (at + 2) right (q ∷ qs) ≡ Some e' → level_in (at + 2) (grown n right (p ∷ rest) place) (q ∷ qs) ≡ Some e')
        → level_in top (node at part left (grown n right (p ∷ rest) place) children cell) (q ∷ qs) ≡ Some e
    kept_right more = ⊎_elim
        (λ (lo : compare_parts q part ≡ Less).
        level_less top at part left (grown n right (p ∷ rest) place) children cell q qs lo ∙ sym (level_less top at part left right children cell q qs lo) ∙ is)
        (⊎_elim
        (λ (same : compare_parts q part ≡ Equal).
        level_equal top at part left (grown n right (p ∷ rest) place) children cell q qs same ∙ sym (level_equal top at part left right children cell q qs same) ∙ is)
        (λ (hi : compare_parts q part ≡ Greater).
        level_greater top at part left (grown n right (p ∷ rest) place) children cell q qs hi ∙ more e (sym (level_greater top at part left right children cell q qs hi) ∙ is)))
        (orders (compare_parts q part))
grown_elsewhere n top (node at part left right children cell) (f ∷ fs) p rest [] place e deep other is =
    let t : Tree = node at part left right children cell in
    top_level top (grown n t (f ∷ fs ++ p ∷ rest) place) ∙ ap (λ ns. Some (record { link = top; nodes = ns })) (goes_through n t f (fs ++ p ∷ rest) place (length fs) deep) ∙ is
grown_elsewhere n top (node at part left right children cell) (f ∷ fs) p rest (q ∷ qs) place e deep other is =
    let P : Parts = fs ++ p ∷ rest in
    by_cases (λ (g : Tree). level_in top g (q ∷ qs) ≡ Some e) (compare_parts f part) _ _ _
    (λ l. ⊎_elim
    (λ (lo : compare_parts q part ≡ Less).
    level_less top at part (grown n left (f ∷ P) place) right children cell q qs lo
    ∙ grown_elsewhere n (at + 1) left (f ∷ fs) p rest (q ∷ qs) place e (sym (at_less (compare_parts f part) _ _ _ l) ∙ deep) other (sym (level_less top at part left right children cell q qs lo) ∙ is))
    (⊎_elim
    (λ (same : compare_parts q part ≡ Equal).
    level_equal top at part (grown n left (f ∷ P) place) right children cell q qs same ∙ sym (level_equal top at part left right children cell q qs same) ∙ is)
    (λ (hi : compare_parts q part ≡ Greater).
    level_greater top at part (grown n left (f ∷ P) place) right children cell q qs hi ∙ sym (level_greater top at part left right children cell q qs hi) ∙ is))
    (orders (compare_parts q part)))
    (λ s. ⊎_elim
    (λ (lo : compare_parts q part ≡ Less).
    level_less top at part left right (grown n children P place) cell q qs lo ∙ sym (level_less top at part left right children cell q qs lo) ∙ is)
    (⊎_elim
    (λ (same : compare_parts q part ≡ Equal).
    let alike : q ≡ f = same_part q part same ∙ sym (same_part f part s) in
    level_equal top at part left right (grown n children P place) cell q qs same
    ∙ grown_elsewhere n (at + 3) children fs p rest qs place e (one_less (depth children P) (length fs) (sym (at_equal (compare_parts f part) _ _ _ s) ∙ deep))
    (λ eq. other (λ i. alike i ∷ eq i)) (sym (level_equal top at part left right children cell q qs same) ∙ is))
    (λ (hi : compare_parts q part ≡ Greater).
    level_greater top at part left right (grown n children P place) cell q qs hi ∙ sym (level_greater top at part left right children cell q qs hi) ∙ is))
    (orders (compare_parts q part)))
    (λ r. ⊎_elim
    (λ (lo : compare_parts q part ≡ Less).
    level_less top at part left (grown n right (f ∷ P) place) children cell q qs lo ∙ sym (level_less top at part left right children cell q qs lo) ∙ is)
    (⊎_elim
    (λ (same : compare_parts q part ≡ Equal).
    level_equal top at part left (grown n right (f ∷ P) place) children cell q qs same ∙ sym (level_equal top at part left right children cell q qs same) ∙ is)
    (λ (hi : compare_parts q part ≡ Greater).
    level_greater top at part left (grown n right (f ∷ P) place) children cell q qs hi
    ∙ grown_elsewhere n (at + 2) right (f ∷ fs) p rest (q ∷ qs) place e (sym (at_greater (compare_parts f part) _ _ _ r) ∙ deep) other (sym (level_greater top at part left right children cell q qs hi) ∙ is)))
    (orders (compare_parts q part)))

-- ---- the new levels

-- a new node's level is that of the chain of new nodes
pub grown_new : (n top : ℕ) (t : Tree) (fs : Parts) (p : List ℕ) (rest qs : Parts) (place : ℕ) → depth t (fs ++ p ∷ rest) ≡ length fs
    → level_in top (grown n t (fs ++ p ∷ rest) place) (fs ++ p ∷ qs) ≡ level_in 0 (chain n (p ∷ rest) place) (p ∷ qs)
grown_new zero top leaf [] p rest qs place deep = refl
grown_new (suc n) top leaf [] p rest qs place deep = refl
grown_new n top leaf (f ∷ fs) p rest qs place deep = absurd (cc)
grown_new n top (node at part left right children cell) [] p rest qs place deep =
    by_cases (λ (g : Tree). level_in top g (p ∷ qs) ≡ level_in 0 (chain n (p ∷ rest) place) (p ∷ qs)) (compare_parts p part) _ _ _
    (λ l. level_less top at part (grown n left (p ∷ rest) place) right children cell p qs l
    ∙ grown_new n (at + 1) left [] p rest qs place (sym (at_less (compare_parts p part) _ _ _ l) ∙ deep))
    (λ s. absurd (not_zero (depth children rest) (sym (at_equal (compare_parts p part) _ _ _ s) ∙ deep)))
    (λ g. level_greater top at part left (grown n right (p ∷ rest) place) children cell p qs g
    ∙ grown_new n (at + 2) right [] p rest qs place (sym (at_greater (compare_parts p part) _ _ _ g) ∙ deep))
grown_new n top (node at part left right children cell) (f ∷ fs) p rest qs place deep =
    by_cases (λ (g : Tree). level_in top g (f ∷ fs ++ p ∷ qs) ≡ level_in 0 (chain n (p ∷ rest) place) (p ∷ qs)) (compare_parts f part) _ _ _
    (λ l. level_less top at part (grown n left (f ∷ fs ++ p ∷ rest) place) right children cell f (fs ++ p ∷ qs) l
    ∙ grown_new n (at + 1) left (f ∷ fs) p rest qs place (sym (at_less (compare_parts f part) _ _ _ l) ∙ deep))
    (λ s. level_equal top at part left right (grown n children (fs ++ p ∷ rest) place) cell f (fs ++ p ∷ qs) s
    ∙ grown_new n (at + 3) children fs p rest qs place (one_less (depth children (fs ++ p ∷ rest)) (length fs) (sym (at_equal (compare_parts f part) _ _ _ s) ∙ deep)))
    (λ g. level_greater top at part left (grown n right (f ∷ fs ++ p ∷ rest) place) children cell f (fs ++ p ∷ qs) g
    ∙ grown_new n (at + 2) right (f ∷ fs) p rest qs place (sym (at_greater (compare_parts f part) _ _ _ g) ∙ deep))

-- the levels of a chain
pub chain_level : (n top : ℕ) (p : List ℕ) (rest qs : Parts) (place : ℕ) → level_in top (chain (suc n) (p ∷ rest) place) (p ∷ qs) ≡ level_in (place + 3) (chain n rest (place + node_size p)) qs
chain_level n top p rest qs place = at_equal (compare_parts p p) _ _ _ (compare_same p)

-- ---- a cell changes no level

nodes-with_cell : (t : Tree) (ps : Parts) (new : Cell) → nodes_in (with_cell t ps new) ≡ nodes_in t
nodes-with_cell leaf ps new = refl
nodes-with_cell (node at part left right children cell) [] new = refl
nodes-with_cell (node at part left right children cell) (p ∷ []) new =
    by_cases (λ (g : Tree). nodes_in g ≡ nodes_in left ++ (part, at) ∷ nodes_in right) (compare_parts p part) _ _ _
    (λ l. ap (λ (ns : List Placed). ns ++ (part, at) ∷ nodes_in right) (nodes-with_cell left (p ∷ []) new))
    (λ s. refl)
    (λ g. ap (λ (ns : List Placed). nodes_in left ++ (part, at) ∷ ns) (nodes-with_cell right (p ∷ []) new))
nodes-with_cell (node at part left right children cell) (p ∷ x ∷ ps) new =
    by_cases (λ (g : Tree). nodes_in g ≡ nodes_in left ++ (part, at) ∷ nodes_in right) (compare_parts p part) _ _ _
    (λ l. ap (λ (ns : List Placed). ns ++ (part, at) ∷ nodes_in right) (nodes-with_cell left (p ∷ x ∷ ps) new))
    (λ s. refl)
    (λ g. ap (λ (ns : List Placed). nodes_in left ++ (part, at) ∷ ns) (nodes-with_cell right (p ∷ x ∷ ps) new))

module _ (top : ℕ) (at : ℕ) (part : List ℕ) (left right children : Tree) (cell : Cell) (q : List ℕ) (qs : Parts) where
  with_left : (later : Tree) → level_in (at + 1) later (q ∷ qs) ≡ level_in (at + 1) left (q ∷ qs)
      → level_in top (node at part later right children cell) (q ∷ qs) ≡ level_in top (node at part left right children cell) (q ∷ qs)
  with_left later same = ⊎_elim
      (λ (lo : compare_parts q part ≡ Less). level_less top at part later right children cell q qs lo ∙ same ∙ sym (level_less top at part left right children cell q qs lo))
      (⊎_elim
      (λ (eq : compare_parts q part ≡ Equal). level_equal top at part later right children cell q qs eq ∙ sym (level_equal top at part left right children cell q qs eq))
      (λ (hi : compare_parts q part ≡ Greater). level_greater top at part later right children cell q qs hi ∙ sym (level_greater top at part left right children cell q qs hi)))
      (orders (compare_parts q part))

  with_children : (later : Tree) → level_in (at + 3) later qs ≡ level_in (at + 3) children qs
      → level_in top (node at part left right later cell) (q ∷ qs) ≡ level_in top (node at part left right children cell) (q ∷ qs)
  with_children later same = ⊎_elim
      (λ (lo : compare_parts q part ≡ Less). level_less top at part left right later cell q qs lo ∙ sym (level_less top at part left right children cell q qs lo))
      (⊎_elim
      (λ (eq : compare_parts q part ≡ Equal). level_equal top at part left right later cell q qs eq ∙ same ∙ sym (level_equal top at part left right children cell q qs eq))
      (λ (hi : compare_parts q part ≡ Greater). level_greater top at part left right later cell q qs hi ∙ sym (level_greater top at part left right children cell q qs hi)))
      (orders (compare_parts q part))

  with_right : (later : Tree) → level_in (at + 2) later (q ∷ qs) ≡ level_in (at + 2) right (q ∷ qs)
      → level_in top (node at part left later children cell) (q ∷ qs) ≡ level_in top (node at part left right children cell) (q ∷ qs)
  with_right later same = ⊎_elim
      (λ (lo : compare_parts q part ≡ Less). level_less top at part left later children cell q qs lo ∙ sym (level_less top at part left right children cell q qs lo))
      (⊎_elim
      (λ (eq : compare_parts q part ≡ Equal). level_equal top at part left later children cell q qs eq ∙ sym (level_equal top at part left right children cell q qs eq))
      (λ (hi : compare_parts q part ≡ Greater). level_greater top at part left later children cell q qs hi ∙ same ∙ sym (level_greater top at part left right children cell q qs hi)))
      (orders (compare_parts q part))

pub level-with_cell : (top : ℕ) (t : Tree) (ps : Parts) (new : Cell) (qs : Parts) → level_in top (with_cell t ps new) qs ≡ level_in top t qs
level-with_cell top t ps new [] = top_level top (with_cell t ps new) ∙ ap (λ ns. Some (record { link = top; nodes = ns })) (nodes-with_cell t ps new) ∙ sym (top_level top t)
level-with_cell top leaf ps new (q ∷ qs) = refl
level-with_cell top (node at part left right children cell) [] new (q ∷ qs) = refl
level-with_cell top (node at part left right children cell) (p ∷ []) new (q ∷ qs) =
    by_cases (λ (g : Tree). level_in top g (q ∷ qs) ≡ level_in top (node at part left right children cell) (q ∷ qs)) (compare_parts p part) _ _ _
    (λ l. with_left top at part left right children cell q qs (with_cell left (p ∷ []) new) (level-with_cell (at + 1) left (p ∷ []) new (q ∷ qs)))
    (λ s. refl)
    (λ g. with_right top at part left right children cell q qs (with_cell right (p ∷ []) new) (level-with_cell (at + 2) right (p ∷ []) new (q ∷ qs)))
level-with_cell top (node at part left right children cell) (p ∷ x ∷ ps) new (q ∷ qs) =
    by_cases (λ (g : Tree). level_in top g (q ∷ qs) ≡ level_in top (node at part left right children cell) (q ∷ qs)) (compare_parts p part) _ _ _
    (λ l. with_left top at part left right children cell q qs (with_cell left (p ∷ x ∷ ps) new) (level-with_cell (at + 1) left (p ∷ x ∷ ps) new (q ∷ qs)))
    (λ s. with_children top at part left right children cell q qs (with_cell children (x ∷ ps) new) (level-with_cell (at + 3) children (x ∷ ps) new qs))
    (λ g. with_right top at part left right children cell q qs (with_cell right (p ∷ x ∷ ps) new) (level-with_cell (at + 2) right (p ∷ x ∷ ps) new (q ∷ qs)))

-- where all parts have nodes none is added
pub grown_full : (n : ℕ) (t : Tree) (ps : Parts) (place : ℕ) → depth t ps ≡ length ps → grown n t ps place ≡ t
grown_full zero leaf [] place deep = refl
grown_full (suc n) leaf [] place deep = refl
grown_full n leaf (p ∷ ps) place deep = absurd (cc)
grown_full n (node at part left right children cell) [] place deep = refl
grown_full n (node at part left right children cell) (p ∷ ps) place deep =
    by_cases (λ (g : Tree). g ≡ node at part left right children cell) (compare_parts p part) _ _ _
    (λ l. ap (λ (t : Tree). node at part t right children cell) (grown_full n left (p ∷ ps) place (sym (at_less (compare_parts p part) _ _ _ l) ∙ deep)))
    (λ s. ap (λ (t : Tree). node at part left right t cell) (grown_full n children ps place (one_less (depth children ps) (length ps) (sym (at_equal (compare_parts p part) _ _ _ s) ∙ deep))))
    (λ g. ap (λ (t : Tree). node at part left t children cell) (grown_full n right (p ∷ ps) place (sym (at_greater (compare_parts p part) _ _ _ g) ∙ deep)))
