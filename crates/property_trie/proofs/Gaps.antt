-- Where a part goes that no sibling has, and what its node changes.
use Rattle.std.proofs.Common.{◌≡◌, ℕ, suc, ◌+◌, ◌<◌, ◌≤◌, true, false, not, ⊎_elim, List, [], ◌∷◌, ◌++◌, filter, Option, Some, None, sym, refl, ap, ◌∙◌, subst, arith}
use Rattle.std.proofs.Common.{lt-ltb, le-ltb}
use Rattle.std.specs.Prelude.{if◌then◌else◌}
use Rattle.std.specs.BTreeMap.{insert_entry}
use Rattle.std.specs.Ordering.{is_le, match_ordering}
use Rattle.std.specs.declared.cmp.Ordering.{Ordering}
use Rattle.std.specs.declared.cmp.Ordering.TheVariants.{Less, Equal, Greater}
use Rattle.property_trie.specs.Parts.{compare_parts}
use Rattle.property_trie.specs.Siblings.{Placed, nodes_in, first_of, last_of, is_up_to, node_before, node_from, free_link, GoesBefore, IsFreeAt, siblings_of}
use Rattle.property_trie.specs.Tree.{Tree, Cell, depth, grown}
use Rattle.property_trie.specs.Tree.Tree.{leaf, node}
use Rattle.property_trie.specs.TreeWords.{link_at}
use Rattle.property_trie.specs.Places.{EachSibling, IsOrdered, IsRising, LiesFrom}
use Rattle.property_trie.proofs.Orders.{at_less, at_equal, at_greater, orders}
use Rattle.property_trie.specs.PartOrder.{parts_total, turned, back, less_on, greater_on}

abbrev Parts : Type 0
Parts = List (List ℕ)

abbrev pub behind : List ℕ → List Placed → List Placed
behind k ns = filter (λ n. not (is_up_to k n)) ns

abbrev pub up_to : List ℕ → List Placed → List Placed
up_to k ns = filter (is_up_to k) ns

-- a part compares so with each of these
abbrev Each : Ordering → List ℕ → List Placed → Type 0
Each o k [] = Unit {0}
Each o k (n ∷ ns) = (compare_parts k n.0 ≡ o) × Each o k ns

each-append : (o : Ordering) (k : List ℕ) (xs ys : List Placed) → Each o k xs → Each o k ys → Each o k (xs ++ ys)
each-append o k [] ys a b = b
each-append o k (n ∷ xs) ys a b = (a.0, each-append o k xs ys a.1 b)

-- behind a node it is behind all siblings before it
all_before : (t : Tree) (part k : List ℕ) → EachSibling Less t part → ((own : List ℕ) → compare_parts own part ≡ Less → compare_parts k own ≡ Greater) → Each Greater k (nodes_in t)
all_before leaf part k each on = tt
all_before (node place own left right children cell) part k each on =
    each-append Greater k (nodes_in left) ((own, place) ∷ nodes_in right) (all_before left part k each.1 on) (on own each.0, all_before right part k each.2 on)

behind_part : (k part own : List ℕ) → compare_parts k part ≡ Greater → compare_parts own part ≡ Less → compare_parts k own ≡ Greater
behind_part k part own on e = greater_on k part own on (turned own part e)

-- and the other way round
all_behind : (t : Tree) (part k : List ℕ) → EachSibling Greater t part → compare_parts k part ≡ Less → Each Less k (nodes_in t)
all_behind leaf part k each on = tt
all_behind (node place own left right children cell) part k each on =
    each-append Less k (nodes_in left) ((own, place) ∷ nodes_in right) (all_behind left part k each.1 on)
    (less_on k part own on (back own part each.0), all_behind right part k each.2 on)

-- ---- the neighbours

-- the first of two that is there
abbrev or_else : Option Placed → Option Placed → Option Placed
or_else None b = b
or_else (Some a) b = Some a

behind_none : (k : List ℕ) (ns : List Placed) → Each Less k ns → behind k ns ≡ []
behind_none k [] each = refl
behind_none k (n ∷ ns) each = ap (λ o. if not (is_le o) then n ∷ behind k ns else behind k ns) each.0 ∙ behind_none k ns each.1

up_to_none : (k : List ℕ) (ns : List Placed) → Each Greater k ns → up_to k ns ≡ []
up_to_none k [] each = refl
up_to_none k (n ∷ ns) each = ap (λ o. if is_le o then n ∷ up_to k ns else up_to k ns) each.0 ∙ up_to_none k ns each.1

-- at a node that the part goes before
behind_left : (k : List ℕ) (xs : List Placed) (n : Placed) (ys : List Placed) → compare_parts k n.0 ≡ Less → Each Less k ys → behind k (xs ++ n ∷ ys) ≡ behind k xs
behind_left k [] n ys less each = ap (λ o. if not (is_le o) then n ∷ behind k ys else behind k ys) less ∙ behind_none k ys each
behind_left k (x ∷ xs) n ys less each = ap (λ l. if not (is_up_to k x) then x ∷ l else l) (behind_left k xs n ys less each)

first_left : (k : List ℕ) (xs : List Placed) (n : Placed) (ys : List Placed) → is_up_to k n ≡ true → first_of (up_to k (xs ++ n ∷ ys)) ≡ or_else (first_of (up_to k xs)) (Some n)
first_left k [] n ys on = ap (λ b. first_of (if b then n ∷ up_to k ys else up_to k ys)) on
first_left k (x ∷ xs) n ys on = elim (is_up_to k x) as (λ b. first_of (if b then x ∷ up_to k (xs ++ n ∷ ys) else up_to k (xs ++ n ∷ ys))
    ≡ or_else (first_of (if b then x ∷ up_to k xs else up_to k xs)) (Some n)) [
      | true ↦ refl
      | false ↦ first_left k xs n ys on
    ]

-- at a node that it goes behind
up_to_right : (k : List ℕ) (xs : List Placed) (n : Placed) (ys : List Placed) → Each Greater k xs → compare_parts k n.0 ≡ Greater → up_to k (xs ++ n ∷ ys) ≡ up_to k ys
up_to_right k [] n ys each more = ap (λ o. if is_le o then n ∷ up_to k ys else up_to k ys) more
up_to_right k (x ∷ xs) n ys each more = ap (λ o. if is_le o then x ∷ up_to k (xs ++ n ∷ ys) else up_to k (xs ++ n ∷ ys)) each.0 ∙ up_to_right k xs n ys each.1 more

last_else : (n : Placed) (ns : List Placed) → last_of (n ∷ ns) ≡ or_else (last_of ns) (Some n)
last_else n [] = refl
last_else n (x ∷ ns) = refl

last_right : (k : List ℕ) (xs : List Placed) (n : Placed) (ys : List Placed) → Each Greater k xs → compare_parts k n.0 ≡ Greater
    → last_of (behind k (xs ++ n ∷ ys)) ≡ or_else (last_of (behind k ys)) (Some n)
last_right k [] n ys each more = ap (λ o. last_of (if not (is_le o) then n ∷ behind k ys else behind k ys)) more ∙ last_else n (behind k ys)
last_right k (x ∷ xs) n ys each more =
    ap (λ o. last_of (if not (is_le o) then x ∷ behind k (xs ++ n ∷ ys) else behind k (xs ++ n ∷ ys))) each.0
    ∙ last_else x (behind k (xs ++ n ∷ ys))
    ∙ ap (λ o. or_else o (Some x)) (last_right k xs n ys each.1 more)
    ∙ twice (last_of (behind k ys))
  where
    twice : (o : Option Placed) → or_else (or_else o (Some n)) (Some x) ≡ or_else o (Some n)
    twice None = refl
    twice (Some a) = refl

-- ---- the free link

-- all nodes lie behind the place of this one
abbrev Low : Option Placed → Tree → Type 0
Low None t = Unit {0}
Low (Some n) t = LiesFrom (n.1 + 1) t

lies_left : (place : ℕ) (part : List ℕ) (left right children : Tree) (cell : Cell) (o : Option Placed) → Low o (node place part left right children cell) → Low o left
lies_left place part left right children cell None h = tt
lies_left place part left right children cell (Some n) h = h.1

lies_right : (place : ℕ) (part : List ℕ) (left right children : Tree) (cell : Cell) (o : Option Placed) → Low o (node place part left right children cell) → Low o right
lies_right place part left right children cell None h = tt
lies_right place part left right children cell (Some n) h = h.2

free_before : (top place : ℕ) (part : List ℕ) (left right children : Tree) (cell : Cell) (lo : Option Placed) → Low lo (node place part left right children cell)
    → place + 1 ≡ free_link top lo (Some (part, place))
free_before top place part left right children cell None h = refl
free_before top place part left right children cell (Some a) h =
    let low : a.1 < place = let at = h.0 in omega (arith, at) in ap (λ b. if b then place + 1 else a.1 + 2) (sym (lt-ltb a.1 place low))

free_behind : (top place : ℕ) (part : List ℕ) (left right children : Tree) (cell : Cell) (hi : Option Placed) → Low hi (node place part left right children cell)
    → place + 2 ≡ free_link top (Some (part, place)) hi
free_behind top place part left right children cell None h = refl
free_behind top place part left right children cell (Some b) h =
    let low : b.1 ≤ place = let at = h.0 in omega (arith, at) in ap (λ t. if t then b.1 + 1 else place + 2) (sym (le-ltb place b.1 low))

-- what is so of an option that another one fills
or_else_twice : (o p : Option Placed) (n : Placed) → or_else (or_else o (Some n)) p ≡ or_else o (Some n)
or_else_twice None p n = refl
or_else_twice (Some a) p n = refl

goes_before_left : (k : List ℕ) (o : Option Placed) (n : Placed) → GoesBefore k (or_else o (Some n)) → GoesBefore k o
goes_before_left k None n h = tt
goes_before_left k (Some a) n h = h

abbrev Free : ℕ → Option Placed → Option Placed → Tree → List ℕ → ℕ → Type 0
Free T lo hi t k link = link ≡ free_link T (or_else (node_before k (nodes_in t)) lo) (or_else (node_from k (nodes_in t)) hi)

-- at the link that two neighbours leave free stand those siblings that go between them
between : (T top : ℕ) (lo hi : Option Placed) (t : Tree) (k : List ℕ) (ps : Parts) → IsOrdered t → IsRising t → Low lo t → Low hi t → top ≡ free_link T lo hi
    → GoesBefore k (node_from k (nodes_in t)) → Free T lo hi t k (link_at top t (k ∷ ps)) × (depth t (k ∷ ps) ≡ 0)
between T top lo hi leaf k ps ord rise low_lo low_hi is goes = (is, refl)
between T top lo hi (node place part left right children cell) k ps ord rise low_lo low_hi is goes =
    let n : Placed = (part, place) in
    let xs = nodes_in left in
    let ys = nodes_in right in
    ⊎_elim
    (λ (l : compare_parts k part ≡ Less).
    let first = first_left k xs n ys (ap is_le l) in
    let last = ap last_of (behind_left k xs n ys l (all_behind right part k ord.1 l)) in
    let more = between T (place + 1) lo (Some n) left k ps ord.2 rise.3 (lies_left place part left right children cell lo low_lo) rise.0
    (free_before T place part left right children cell lo low_lo) (goes_before_left k (node_from k xs) n (subst (GoesBefore k) first goes)) in (
      at_less (compare_parts k part) _ _ _ l ∙ more.0
          ∙ (λ i. free_link T (or_else (sym last i) lo) ((sym (or_else_twice (node_from k xs) hi n) ∙ ap (λ o. or_else o hi) (sym first)) i)),
      at_less (compare_parts k part) _ _ _ l ∙ more.1,
    ))
    (⊎_elim
    (λ (s : compare_parts k part ≡ Equal).
    let each = all_before left part k ord.0 (λ own e. parts_total.congr k part own s ∙ turned own part e) in
    let first = first_left k xs n ys (ap is_le s) ∙ ap (λ ns. or_else (first_of ns) (Some n)) (up_to_none k xs each) in
    let less : compare_parts k part ≡ Less = subst (GoesBefore k) first goes in
    absurd (cc))
    (λ (g : compare_parts k part ≡ Greater).
    let each = all_before left part k ord.0 (λ own e. behind_part k part own g e) in
    let first = ap first_of (up_to_right k xs n ys each g) in
    let last = last_right k xs n ys each g in
    let more = between T (place + 2) (Some n) hi right k ps ord.3 rise.4 rise.1 (lies_right place part left right children cell hi low_hi)
    (free_behind T place part left right children cell hi low_hi) (subst (GoesBefore k) first goes) in (
      at_greater (compare_parts k part) _ _ _ g ∙ more.0
          ∙ (λ i. free_link T ((sym (or_else_twice (node_before k ys) lo n) ∙ ap (λ o. or_else o lo) (sym last)) i) (or_else (sym first i) hi)),
      at_greater (compare_parts k part) _ _ _ g ∙ more.1,
    )))
    (orders (compare_parts k part))

or_else_none : (o : Option Placed) → or_else o None ≡ o
or_else_none None = refl
or_else_none (Some a) = refl

-- so is a part that no sibling has
pub linked_free : (top : ℕ) (t : Tree) (k : List ℕ) (ps : Parts) (link : ℕ) → IsOrdered t → IsRising t → IsFreeAt k (siblings_of top t) link
    → (link_at top t (k ∷ ps) ≡ link) × (depth t (k ∷ ps) ≡ 0)
linked_free top t k ps link ord rise free =
    let more = between top top None None t k ps ord rise tt tt refl free.0 in
    (more.0 ∙ (λ i. free_link top (or_else_none (node_before k (nodes_in t)) i) (or_else_none (node_from k (nodes_in t)) i)) ∙ sym free.1, more.1)

-- ---- a node more

insert_left : (p : List ℕ) (place : ℕ) (xs : List Placed) (n : Placed) (ys : List Placed) → compare_parts p n.0 ≡ Less
    → insert_entry compare_parts (xs ++ n ∷ ys) p place ≡ insert_entry compare_parts xs p place ++ n ∷ ys
insert_left p place [] n ys less = ap (λ o. match_ordering o ((p, place) ∷ n ∷ ys) ((n.0, place) ∷ ys) (n ∷ insert_entry compare_parts ys p place)) less
insert_left p place (x ∷ xs) n ys less =
    ap (λ l. match_ordering (compare_parts p x.0) ((p, place) ∷ x ∷ xs ++ n ∷ ys) ((x.0, place) ∷ xs ++ n ∷ ys) (x ∷ l)) (insert_left p place xs n ys less)
    ∙ elim (compare_parts p x.0) as (λ o. match_ordering o ((p, place) ∷ x ∷ xs ++ n ∷ ys) ((x.0, place) ∷ xs ++ n ∷ ys) (x ∷ insert_entry compare_parts xs p place ++ n ∷ ys)
    ≡ match_ordering o ((p, place) ∷ x ∷ xs) ((x.0, place) ∷ xs) (x ∷ insert_entry compare_parts xs p place) ++ n ∷ ys) [
      | Less ↦ refl
      | Equal ↦ refl
      | Greater ↦ refl
    ]

insert_right : (p : List ℕ) (place : ℕ) (xs : List Placed) (n : Placed) (ys : List Placed) → Each Greater p xs → compare_parts p n.0 ≡ Greater
    → insert_entry compare_parts (xs ++ n ∷ ys) p place ≡ xs ++ n ∷ insert_entry compare_parts ys p place
insert_right p place [] n ys each more = ap (λ o. match_ordering o ((p, place) ∷ n ∷ ys) ((n.0, place) ∷ ys) (n ∷ insert_entry compare_parts ys p place)) more
insert_right p place (x ∷ xs) n ys each more =
    ap (λ o. match_ordering o ((p, place) ∷ x ∷ xs ++ n ∷ ys) ((x.0, place) ∷ xs ++ n ∷ ys) (x ∷ insert_entry compare_parts (xs ++ n ∷ ys) p place)) each.0
    ∙ ap (λ (l : List Placed). x ∷ l) (insert_right p place xs n ys each.1 more)

not_zero : (n : ℕ) → 1 + n ≡ 0 → ⊥
not_zero n e = omega arith

pub grown_level : (n : ℕ) (t : Tree) (p : List ℕ) (rest : Parts) (place : ℕ) → IsOrdered t → depth t (p ∷ rest) ≡ 0
    → nodes_in (grown (suc n) t (p ∷ rest) place) ≡ insert_entry compare_parts (nodes_in t) p place
grown_level n leaf p rest place ord none = refl
grown_level n (node at part left right children cell) p rest place ord none =
    let own : Placed = (part, at) in
    ⊎_elim
    (λ (l : compare_parts p part ≡ Less).
    ap nodes_in (at_less (compare_parts p part) (node at part (grown (suc n) left (p ∷ rest) place) right children cell) _ _ l)
    ∙ ap (λ (xs : List Placed). xs ++ own ∷ nodes_in right) (grown_level n left p rest place ord.2 (sym (at_less (compare_parts p part) _ _ _ l) ∙ none))
    ∙ sym (insert_left p place (nodes_in left) own (nodes_in right) l))
    (⊎_elim
    (λ (s : compare_parts p part ≡ Equal). absurd (not_zero (depth children rest) (sym (at_equal (compare_parts p part) _ _ _ s) ∙ none)))
    (λ (g : compare_parts p part ≡ Greater).
    ap nodes_in (at_greater (compare_parts p part) _ _ (node at part left (grown (suc n) right (p ∷ rest) place) children cell) g)
    ∙ ap (λ (ys : List Placed). nodes_in left ++ own ∷ ys) (grown_level n right p rest place ord.3 (sym (at_greater (compare_parts p part) _ _ _ g) ∙ none))
    ∙ sym (insert_right p place (nodes_in left) own (nodes_in right) (all_before left part p ord.0 (λ own e. behind_part p part own g e)) g)))
    (orders (compare_parts p part))
