-- A walk stays on its path while the tree grows; what its loads find; and where it ends.
use Rattle.std.proofs.Common.{◌≡◌, ℕ, ◌+◌, ◌≤◌, ◌⊎◌, List, [], ◌∷◌, length, get_or, sym, refl, ap, ◌∙◌, subst, inl, inr, ⊎_elim, arith}
use mathlib.Core.Logic.{dite}
use native.Mathlib.Decide.{dec_le}
use Rattle.std.specs.declared.cmp.Ordering.{Ordering}
use Rattle.std.specs.declared.cmp.Ordering.TheVariants.{Less, Equal, Greater}
use Rattle.property_trie.specs.Parts.{compare_parts}
use Rattle.property_trie.specs.Tree.{Tree, Cell, by_order, at_last, find, depth, Extends}
use Rattle.property_trie.specs.Tree.Tree.{leaf, node}
use Rattle.property_trie.specs.Places.{link_to, LiesFrom, IsRising, InNode, Takes, IsApart}
use Rattle.property_trie.specs.TreeWords.{TreeHolds, link_at, missing_part}
use Rattle.property_trie.specs.Walk.{WalksTo, Stands, EndsAt}
use Rattle.property_trie.proofs.Orders.{at_less, at_equal, at_greater}
use Rattle.property_trie.proofs.Lies.{lies-lower}

abbrev Parts : Type 0
Parts = List (List ℕ)

-- a walk begins at its top
pub walk_begins : (t : Tree) (top : ℕ) (parts : Parts) → WalksTo t top parts top parts
walk_begins leaf top parts = (refl, refl)
walk_begins (node at part l r c cell) top [] = (refl, refl)
walk_begins (node at part l r c cell) top (p ∷ ps) = inl (refl, refl)

pub chosen_on : (o : Ordering) (x y z x' y' z' : Type 0) → (o ≡ Less → x → x') → (o ≡ Equal → y → y') → (o ≡ Greater → z → z') → by_order o x y z → by_order o x' y' z'
chosen_on Less x y z x' y' z' f g h = f refl
chosen_on Equal x y z x' y' z' f g h = g refl
chosen_on Greater x y z x' y' z' f g h = h refl

-- and stays on its path while the tree grows
pub walk_extends : (t u : Tree) (top : ℕ) (parts : Parts) (link : ℕ) (rest : Parts) → Extends t u → WalksTo t top parts link rest → WalksTo u top parts link rest
walk_extends leaf leaf top parts link rest h w = w
walk_extends leaf (node at part l r c cell) top [] link rest h w = w
walk_extends leaf (node at part l r c cell) top (p ∷ ps) link rest h w = inl w
walk_extends (node at part l r c cell) leaf top parts link rest h w = absurd h
walk_extends (node at part l r c cell) (node at' part' l' r' c' cell') top [] link rest h w = w
walk_extends (node at part l r c cell) (node at' part' l' r' c' cell') top (p ∷ []) link rest h w = ⊎_elim
    (λ here. inl here)
    (λ on. inr (subst (λ (x : ℕ × List ℕ). by_order (compare_parts p x.1) (WalksTo l' (x.0 + 1) (p ∷ []) link rest) ⊥ (WalksTo r' (x.0 + 2) (p ∷ []) link rest)) (λ i. (sym h.0 i, sym h.1 i))
    (chosen_on (compare_parts p part) (WalksTo l (at + 1) (p ∷ []) link rest) ⊥ (WalksTo r (at + 2) (p ∷ []) link rest) (WalksTo l' (at + 1) (p ∷ []) link rest) ⊥ (WalksTo r' (at + 2) (p ∷ []) link rest)
    (λ e. walk_extends l l' (at + 1) (p ∷ []) link rest h.2) (λ e none. none) (λ e. walk_extends r r' (at + 2) (p ∷ []) link rest h.3) on)))
    w
walk_extends (node at part l r c cell) (node at' part' l' r' c' cell') top (p ∷ y ∷ ys) link rest h w = ⊎_elim
    (λ here. inl here)
    (λ on. inr (subst (λ (x : ℕ × List ℕ). by_order (compare_parts p x.1) (WalksTo l' (x.0 + 1) (p ∷ y ∷ ys) link rest) (WalksTo c' (x.0 + 3) (y ∷ ys) link rest) (WalksTo r' (x.0 + 2) (p ∷ y ∷ ys) link rest)) (λ i. (sym h.0 i, sym h.1 i))
    (chosen_on (compare_parts p part) (WalksTo l (at + 1) (p ∷ y ∷ ys) link rest) (WalksTo c (at + 3) (y ∷ ys) link rest) (WalksTo r (at + 2) (p ∷ y ∷ ys) link rest)
    (WalksTo l' (at + 1) (p ∷ y ∷ ys) link rest) (WalksTo c' (at + 3) (y ∷ ys) link rest) (WalksTo r' (at + 2) (p ∷ y ∷ ys) link rest)
    (λ e. walk_extends l l' (at + 1) (p ∷ y ∷ ys) link rest h.2) (λ e. walk_extends c c' (at + 3) (y ∷ ys) link rest h.4) (λ e. walk_extends r r' (at + 2) (p ∷ y ∷ ys) link rest h.3) on)))
    w

-- What a load of the link finds: the rest of the tree, in which the rest of the walk goes on.
pub record Reached (t : Tree) (top : ℕ) (parts : Parts) (link : ℕ) (rest : Parts) (words : List ℕ) : Type 0 where
  pub below : Tree
  pub found : find t parts ≡ find below rest
  -- the nodes that are missing are missing there
  pub same_link : link_at top t parts ≡ link_at link below rest
  pub same_part : missing_part t parts ≡ missing_part below rest
  pub deep : depth t parts + length rest ≡ length parts + depth below rest
  pub link_is : get_or words link 0 ≡ link_to below
  pub holds : TreeHolds words below
  pub apart : IsApart below
  pub rising : IsRising below
  -- the places lie above the link
  pub above : LiesFrom (link + 1) below
  pub on : (link' : ℕ) (rest' : Parts) → WalksTo below link rest link' rest' → WalksTo t top parts link' rest'
  pub ends : (cell_link : ℕ) → EndsAt below rest cell_link → EndsAt t parts cell_link
  pub stands : (place : ℕ) (own : List ℕ) (rest' : Parts) → Stands below rest place own rest' → Stands t parts place own rest'

here : (t : Tree) (top : ℕ) (parts : Parts) (link : ℕ) (rest : Parts) (words : List ℕ) → link ≡ top → rest ≡ parts
    → get_or words top 0 ≡ link_to t → TreeHolds words t → IsApart t → IsRising t → LiesFrom (top + 1) t → Reached t top parts link rest words
here t top parts link rest words l r is holds apart rising above =
    subst (λ (x : ℕ × Parts). Reached t top parts x.0 x.1 words) (λ i. (sym l i, sym r i)) record {
      below = t;
      found = refl;
      same_link = refl;
      same_part = refl;
      deep = omega arith;
      link_is = is;
      holds = holds;
      apart = apart;
      rising = rising;
      above = above;
      on = λ link' rest' w. w;
      ends = λ cell_link e. e;
      stands = λ place own rest' w. w;
    }

-- siblings lie above the links of a node: all that lies from its place on and is apart from it lies behind it
behind : (at : ℕ) (part : List ℕ) (u : Tree) → LiesFrom (at + 1) u → ((word : ℕ) → InNode at part word → Takes u word → ⊥) → LiesFrom (at + 5) u
behind at part leaf lies apart = tt
behind at part (node place q l r c cell) lies apart = (
  (dite (dec_le (at + 5) place)
      (λ (far : at + 5 ≤ place). far)
      (λ near. let low = lies.0 in absurd (apart place (omega arith, omega arith) (inl (omega arith, omega arith))))),
  behind at part l lies.1 (λ word own is. apart word own (inr (inr (inl is)))),
  behind at part r lies.2 (λ word own is. apart word own (inr (inr (inr (inl is))))),
  behind at part c lies.3 (λ word own is. apart word own (inr (inr (inr (inr is))))),
)

pub unchosen : (o : Ordering) (x y z : Type 0) → by_order o x y z → ((o ≡ Less) × x) ⊎ (((o ≡ Equal) × y) ⊎ ((o ≡ Greater) × z))
unchosen Less x y z h = inl (refl, h)
unchosen Equal x y z h = inr (inl (refl, h))
unchosen Greater x y z h = inr (inr (refl, h))

-- what is found of a part of the tree is found of the whole, whose walks go on there
goes_on : (t u : Tree) (top top' : ℕ) (parts parts' : Parts) (link : ℕ) (rest : Parts) (words : List ℕ) → Reached u top' parts' link rest words
    → find t parts ≡ find u parts' → link_at top t parts ≡ link_at top' u parts' → missing_part t parts ≡ missing_part u parts' → depth t parts + length parts' ≡ length parts + depth u parts'
    → ((link' : ℕ) (rest' : Parts) → WalksTo u top' parts' link' rest' → WalksTo t top parts link' rest')
    → ((cell_link : ℕ) → EndsAt u parts' cell_link → EndsAt t parts cell_link)
    → ((place : ℕ) (own : List ℕ) (rest' : Parts) → Stands u parts' place own rest' → Stands t parts place own rest') → Reached t top parts link rest words
goes_on t u top top' parts parts' link rest words k found same_link same_part deep on ends stands = record {
  below = k.below;
  found = found ∙ k.found;
  same_link = same_link ∙ k.same_link;
  same_part = same_part ∙ k.same_part;
  deep = let d = k.deep in omega arith;
  link_is = k.link_is;
  holds = k.holds;
  apart = k.apart;
  rising = k.rising;
  above = k.above;
  on = λ link' rest' w. on link' rest' (k.on link' rest' w);
  ends = λ cell_link w. ends cell_link (k.ends cell_link w);
  stands = λ place own rest' w. stands place own rest' (k.stands place own rest' w);
}

module _ (at : ℕ) (l r c : Tree) (p : List ℕ) (ps : Parts) where
  -- a walk goes on among the siblings or below, as the parts compare
  abbrev walks : ℕ → Parts → Ordering → Type 0
  walks link' rest' o = by_order o (WalksTo l (at + 1) (p ∷ ps) link' rest') (at_last ps ⊥ (WalksTo c (at + 3) ps link' rest')) (WalksTo r (at + 2) (p ∷ ps) link' rest')

  abbrev ending : ℕ → Ordering → Type 0
  ending cell_link o = by_order o (EndsAt l (p ∷ ps) cell_link) (at_last ps (cell_link ≡ at + 4) (EndsAt c ps cell_link)) (EndsAt r (p ∷ ps) cell_link)

  abbrev standing : ℕ → List ℕ → Parts → Ordering → Type 0
  standing place own rest' o = by_order o (Stands l (p ∷ ps) place own rest') (at_last ps ⊥ (Stands c ps place own rest')) (Stands r (p ∷ ps) place own rest')

module _ (at : ℕ) (part : List ℕ) (l r c : Tree) (cell : Cell) (top link : ℕ) (p : List ℕ) (ps rest : Parts) (words : List ℕ) where
  abbrev whole : Tree
  whole = node at part l r c cell

  reached_left : compare_parts p part ≡ Less → Reached l (at + 1) (p ∷ ps) link rest words → Reached whole top (p ∷ ps) link rest words
  reached_left e k =
      goes_on whole l top (at + 1) (p ∷ ps) (p ∷ ps) link rest words k
      (ap (λ (x : Cell). x.place) (at_less (compare_parts p part) _ _ _ e)) (at_less (compare_parts p part) _ _ _ e) (at_less (compare_parts p part) _ _ _ e)
      (let d = at_less (compare_parts p part) (depth l (p ∷ ps)) (1 + depth c ps) (depth r (p ∷ ps)) e in omega arith)
      (λ link' rest' w. inr (subst (walks at l r c p ps link' rest') (sym e) w)) (λ cell_link w. subst (ending at l r c p ps cell_link) (sym e) w) (λ place own rest' w. inr (subst (standing at l r c p ps place own rest') (sym e) w))

  reached_right : compare_parts p part ≡ Greater → Reached r (at + 2) (p ∷ ps) link rest words → Reached whole top (p ∷ ps) link rest words
  reached_right e k =
      goes_on whole r top (at + 2) (p ∷ ps) (p ∷ ps) link rest words k
      (ap (λ (x : Cell). x.place) (at_greater (compare_parts p part) _ _ _ e)) (at_greater (compare_parts p part) _ _ _ e) (at_greater (compare_parts p part) _ _ _ e)
      (let d = at_greater (compare_parts p part) (depth l (p ∷ ps)) (1 + depth c ps) (depth r (p ∷ ps)) e in omega arith)
      (λ link' rest' w. inr (subst (walks at l r c p ps link' rest') (sym e) w)) (λ cell_link w. subst (ending at l r c p ps cell_link) (sym e) w) (λ place own rest' w. inr (subst (standing at l r c p ps place own rest') (sym e) w))

module _ (at : ℕ) (part : List ℕ) (l r c : Tree) (cell : Cell) (top link : ℕ) (p y : List ℕ) (ys rest : Parts) (words : List ℕ) where
  reached_children : compare_parts p part ≡ Equal → Reached c (at + 3) (y ∷ ys) link rest words → Reached (node at part l r c cell) top (p ∷ y ∷ ys) link rest words
  reached_children e k =
      goes_on (node at part l r c cell) c top (at + 3) (p ∷ y ∷ ys) (y ∷ ys) link rest words k
      (ap (λ (x : Cell). x.place) (at_equal (compare_parts p part) _ _ _ e)) (at_equal (compare_parts p part) _ _ _ e) (at_equal (compare_parts p part) _ _ _ e)
      (let d = at_equal (compare_parts p part) (depth l (p ∷ y ∷ ys)) (1 + depth c (y ∷ ys)) (depth r (p ∷ y ∷ ys)) e in omega arith)
      (λ link' rest' w. inr (subst (walks at l r c p (y ∷ ys) link' rest') (sym e) w))
      (λ cell_link w. subst (ending at l r c p (y ∷ ys) cell_link) (sym e) w)
      (λ place own rest' w. inr (subst (standing at l r c p (y ∷ ys) place own rest') (sym e) w))

-- what a load of a link on the path finds
pub reaches : (t : Tree) (top : ℕ) (parts : Parts) (link : ℕ) (rest : Parts) (words : List ℕ) → WalksTo t top parts link rest
    → get_or words top 0 ≡ link_to t → TreeHolds words t → IsApart t → IsRising t → LiesFrom (top + 1) t → Reached t top parts link rest words
reaches leaf top parts link rest words w is holds apart rising above = here leaf top parts link rest words w.0 w.1 is holds apart rising above
reaches (node at part l r c cell) top [] link rest words w is holds apart rising above = here (node at part l r c cell) top [] link rest words w.0 w.1 is holds apart rising above
reaches (node at part l r c cell) top (p ∷ []) link rest words w is holds apart rising above = ⊎_elim
    (λ (h : (link ≡ top) × (rest ≡ p ∷ [])). here (node at part l r c cell) top (p ∷ []) link rest words h.0 h.1 is holds apart rising above)
    (λ on. ⊎_elim
    (λ (less : (compare_parts p part ≡ Less) × WalksTo l (at + 1) (p ∷ []) link rest).
    reached_left at part l r c cell top link p [] rest words less.0 (reaches l (at + 1) (p ∷ []) link rest words less.1 holds.0.left_is holds.1 apart.10 rising.3
    (lies-lower (at + 1 + 1) (at + 5) l (omega arith) (behind at part l rising.0 apart.1))))
    (λ other. ⊎_elim
    (λ (equal : (compare_parts p part ≡ Equal) × ⊥). absurd equal.1)
    (λ (greater : (compare_parts p part ≡ Greater) × WalksTo r (at + 2) (p ∷ []) link rest).
    reached_right at part l r c cell top link p [] rest words greater.0 (reaches r (at + 2) (p ∷ []) link rest words greater.1 holds.0.right_is holds.2 apart.11 rising.4
    (lies-lower (at + 2 + 1) (at + 5) r (omega arith) (behind at part r rising.1 apart.2))))
    other)
    (unchosen (compare_parts p part) (WalksTo l (at + 1) (p ∷ []) link rest) ⊥ (WalksTo r (at + 2) (p ∷ []) link rest) on))
    w
reaches (node at part l r c cell) top (p ∷ y ∷ ys) link rest words w is holds apart rising above = ⊎_elim
    (λ (h : (link ≡ top) × (rest ≡ p ∷ y ∷ ys)). here (node at part l r c cell) top (p ∷ y ∷ ys) link rest words h.0 h.1 is holds apart rising above)
    (λ on. ⊎_elim
    (λ (less : (compare_parts p part ≡ Less) × WalksTo l (at + 1) (p ∷ y ∷ ys) link rest).
    reached_left at part l r c cell top link p (y ∷ ys) rest words less.0 (reaches l (at + 1) (p ∷ y ∷ ys) link rest words less.1 holds.0.left_is holds.1 apart.10 rising.3
    (lies-lower (at + 1 + 1) (at + 5) l (omega arith) (behind at part l rising.0 apart.1))))
    (λ other. ⊎_elim
    (λ (equal : (compare_parts p part ≡ Equal) × WalksTo c (at + 3) (y ∷ ys) link rest).
    reached_children at part l r c cell top link p y ys rest words equal.0 (reaches c (at + 3) (y ∷ ys) link rest words equal.1 holds.0.children_is holds.3 apart.12 rising.5
    (lies-lower (at + 3 + 1) (at + 5) c (omega arith) (behind at part c rising.2 apart.3))))
    (λ (greater : (compare_parts p part ≡ Greater) × WalksTo r (at + 2) (p ∷ y ∷ ys) link rest).
    reached_right at part l r c cell top link p (y ∷ ys) rest words greater.0 (reaches r (at + 2) (p ∷ y ∷ ys) link rest words greater.1 holds.0.right_is holds.2 apart.11 rising.4
    (lies-lower (at + 2 + 1) (at + 5) r (omega arith) (behind at part r rising.1 apart.2))))
    other)
    (unchosen (compare_parts p part) (WalksTo l (at + 1) (p ∷ y ∷ ys) link rest) (WalksTo c (at + 3) (y ∷ ys) link rest) (WalksTo r (at + 2) (p ∷ y ∷ ys) link rest) on))
    w

module _ (t : Tree) (top : ℕ) (parts : Parts) (link : ℕ) (q : List ℕ) (qs : Parts) (words : List ℕ) (k : Reached t top parts link (q ∷ qs) words)
    (at : ℕ) (part : List ℕ) (l r c : Tree) (cell : Cell) (is : k.below ≡ node at part l r c cell) where
  abbrev there : Tree
  there = node at part l r c cell

  onwards : (link' : ℕ) (rest' : Parts) → WalksTo there link (q ∷ qs) link' rest' → WalksTo t top parts link' rest'
  onwards link' rest' w = k.on link' rest' (subst (λ (b : Tree). WalksTo b link (q ∷ qs) link' rest') (sym is) w)

  -- from a node that isn't the last part's the walk goes on
  pub goes_left : compare_parts q part ≡ Less → WalksTo t top parts (at + 1) (q ∷ qs)
  goes_left e = onwards (at + 1) (q ∷ qs) (inr (subst (λ (o : Ordering). by_order o (WalksTo l (at + 1) (q ∷ qs) (at + 1) (q ∷ qs)) (at_last qs ⊥ (WalksTo c (at + 3) qs (at + 1) (q ∷ qs))) (WalksTo r (at + 2) (q ∷ qs) (at + 1) (q ∷ qs))) (sym e) (walk_begins l (at + 1) (q ∷ qs))))

  pub goes_right : compare_parts q part ≡ Greater → WalksTo t top parts (at + 2) (q ∷ qs)
  goes_right e = onwards (at + 2) (q ∷ qs) (inr (subst (λ (o : Ordering). by_order o (WalksTo l (at + 1) (q ∷ qs) (at + 2) (q ∷ qs)) (at_last qs ⊥ (WalksTo c (at + 3) qs (at + 2) (q ∷ qs))) (WalksTo r (at + 2) (q ∷ qs) (at + 2) (q ∷ qs))) (sym e) (walk_begins r (at + 2) (q ∷ qs))))

-- down to the children of an equal part
pub goes_down : (t : Tree) (top : ℕ) (parts : Parts) (link : ℕ) (q y : List ℕ) (ys : Parts) (words : List ℕ) (k : Reached t top parts link (q ∷ y ∷ ys) words)
    (at : ℕ) (part : List ℕ) (l r c : Tree) (cell : Cell) → k.below ≡ node at part l r c cell → compare_parts q part ≡ Equal → WalksTo t top parts (at + 3) (y ∷ ys)
goes_down t top parts link q y ys words k at part l r c cell is e =
    onwards t top parts link q (y ∷ ys) words k at part l r c cell is (at + 3) (y ∷ ys)
    (inr (subst (λ (o : Ordering). by_order o (WalksTo l (at + 1) (q ∷ y ∷ ys) (at + 3) (y ∷ ys)) (WalksTo c (at + 3) (y ∷ ys) (at + 3) (y ∷ ys)) (WalksTo r (at + 2) (q ∷ y ∷ ys) (at + 3) (y ∷ ys))) (sym e) (walk_begins c (at + 3) (y ∷ ys))))

-- at the last part the property's link stands in the node
pub comes_to : (t : Tree) (top : ℕ) (parts : Parts) (link : ℕ) (q : List ℕ) (words : List ℕ) (k : Reached t top parts link (q ∷ []) words)
    (at : ℕ) (part : List ℕ) (l r c : Tree) (cell : Cell) → k.below ≡ node at part l r c cell → compare_parts q part ≡ Equal → EndsAt t parts (at + 4)
comes_to t top parts link q words k at part l r c cell is e =
    k.ends (at + 4) (subst (λ (b : Tree). EndsAt b (q ∷ []) (at + 4)) (sym is)
    (subst (λ (o : Ordering). by_order o (EndsAt l (q ∷ []) (at + 4)) (at + 4 ≡ at + 4) (EndsAt r (q ∷ []) (at + 4))) (sym e) refl))

-- the end stays while the tree grows
pub ends_extend : (t u : Tree) (parts : Parts) (link : ℕ) → Extends t u → EndsAt t parts link → EndsAt u parts link
ends_extend leaf u parts link h w = absurd w
ends_extend (node at part l r c cell) leaf parts link h w = absurd h
ends_extend (node at part l r c cell) (node at' part' l' r' c' cell') [] link h w = absurd w
ends_extend (node at part l r c cell) (node at' part' l' r' c' cell') (p ∷ []) link h w =
    subst (λ (x : ℕ × List ℕ). by_order (compare_parts p x.1) (EndsAt l' (p ∷ []) link) (link ≡ x.0 + 4) (EndsAt r' (p ∷ []) link)) (λ i. (sym h.0 i, sym h.1 i))
    (chosen_on (compare_parts p part) (EndsAt l (p ∷ []) link) (link ≡ at + 4) (EndsAt r (p ∷ []) link) (EndsAt l' (p ∷ []) link) (link ≡ at + 4) (EndsAt r' (p ∷ []) link)
    (λ e. ends_extend l l' (p ∷ []) link h.2) (λ e same. same) (λ e. ends_extend r r' (p ∷ []) link h.3) w)
ends_extend (node at part l r c cell) (node at' part' l' r' c' cell') (p ∷ y ∷ ys) link h w =
    subst (λ (x : List ℕ). by_order (compare_parts p x) (EndsAt l' (p ∷ y ∷ ys) link) (EndsAt c' (y ∷ ys) link) (EndsAt r' (p ∷ y ∷ ys) link)) (sym h.1)
    (chosen_on (compare_parts p part) (EndsAt l (p ∷ y ∷ ys) link) (EndsAt c (y ∷ ys) link) (EndsAt r (p ∷ y ∷ ys) link) (EndsAt l' (p ∷ y ∷ ys) link) (EndsAt c' (y ∷ ys) link) (EndsAt r' (p ∷ y ∷ ys) link)
    (λ e. ends_extend l l' (p ∷ y ∷ ys) link h.2) (λ e. ends_extend c c' (y ∷ ys) link h.4) (λ e. ends_extend r r' (p ∷ y ∷ ys) link h.3) w)

-- a load there finds the place of the cell
pub ends_find : (t : Tree) (parts : Parts) (link : ℕ) (words : List ℕ) → EndsAt t parts link → TreeHolds words t → get_or words link 0 ≡ find t parts
ends_find leaf parts link words w holds = absurd w
ends_find (node at part l r c cell) [] link words w holds = absurd w
ends_find (node at part l r c cell) (p ∷ []) link words w holds = ⊎_elim
    (λ (less : (compare_parts p part ≡ Less) × EndsAt l (p ∷ []) link). ends_find l (p ∷ []) link words less.1 holds.1 ∙ sym (ap (λ (x : Cell). x.place) (at_less (compare_parts p part) _ _ _ less.0)))
    (λ other. ⊎_elim
    (λ (equal : (compare_parts p part ≡ Equal) × (link ≡ at + 4)). ap (λ (j : ℕ). get_or words j 0) equal.1 ∙ (holds.0.cell_is ∙ sym (ap (λ (x : Cell). x.place) (at_equal (compare_parts p part) _ _ _ equal.0))))
    (λ (greater : (compare_parts p part ≡ Greater) × EndsAt r (p ∷ []) link). ends_find r (p ∷ []) link words greater.1 holds.2 ∙ sym (ap (λ (x : Cell). x.place) (at_greater (compare_parts p part) _ _ _ greater.0)))
    other)
    (unchosen (compare_parts p part) (EndsAt l (p ∷ []) link) (link ≡ at + 4) (EndsAt r (p ∷ []) link) w)
ends_find (node at part l r c cell) (p ∷ y ∷ ys) link words w holds = ⊎_elim
    (λ (less : (compare_parts p part ≡ Less) × EndsAt l (p ∷ y ∷ ys) link). ends_find l (p ∷ y ∷ ys) link words less.1 holds.1 ∙ sym (ap (λ (x : Cell). x.place) (at_less (compare_parts p part) _ _ _ less.0)))
    (λ other. ⊎_elim
    (λ (equal : (compare_parts p part ≡ Equal) × EndsAt c (y ∷ ys) link). ends_find c (y ∷ ys) link words equal.1 holds.3 ∙ sym (ap (λ (x : Cell). x.place) (at_equal (compare_parts p part) _ _ _ equal.0)))
    (λ (greater : (compare_parts p part ≡ Greater) × EndsAt r (p ∷ y ∷ ys) link). ends_find r (p ∷ y ∷ ys) link words greater.1 holds.2 ∙ sym (ap (λ (x : Cell). x.place) (at_greater (compare_parts p part) _ _ _ greater.0)))
    other)
    (unchosen (compare_parts p part) (EndsAt l (p ∷ y ∷ ys) link) (EndsAt c (y ∷ ys) link) (EndsAt r (p ∷ y ∷ ys) link) w)

none_deep : (t : Tree) → depth t [] ≡ 0
none_deep leaf = refl
none_deep (node at part l r c cell) = refl

-- the whole parts have nodes there
pub ends_deep : (t : Tree) (parts : Parts) (link : ℕ) → EndsAt t parts link → depth t parts ≡ length parts
ends_deep leaf parts link w = absurd w
ends_deep (node at part l r c cell) [] link w = absurd w
ends_deep (node at part l r c cell) (p ∷ []) link w = ⊎_elim
    (λ (less : (compare_parts p part ≡ Less) × EndsAt l (p ∷ []) link). at_less (compare_parts p part) _ _ _ less.0 ∙ ends_deep l (p ∷ []) link less.1)
    (λ other. ⊎_elim
    (λ (equal : (compare_parts p part ≡ Equal) × (link ≡ at + 4)). at_equal (compare_parts p part) (depth l (p ∷ [])) (1 + depth c []) (depth r (p ∷ [])) equal.0 ∙ (let d = none_deep c in omega arith))
    (λ (greater : (compare_parts p part ≡ Greater) × EndsAt r (p ∷ []) link). at_greater (compare_parts p part) _ _ _ greater.0 ∙ ends_deep r (p ∷ []) link greater.1)
    other)
    (unchosen (compare_parts p part) (EndsAt l (p ∷ []) link) (link ≡ at + 4) (EndsAt r (p ∷ []) link) w)
ends_deep (node at part l r c cell) (p ∷ y ∷ ys) link w = ⊎_elim
    (λ (less : (compare_parts p part ≡ Less) × EndsAt l (p ∷ y ∷ ys) link). at_less (compare_parts p part) _ _ _ less.0 ∙ ends_deep l (p ∷ y ∷ ys) link less.1)
    (λ other. ⊎_elim
    (λ (equal : (compare_parts p part ≡ Equal) × EndsAt c (y ∷ ys) link). at_equal (compare_parts p part) (depth l (p ∷ y ∷ ys)) (1 + depth c (y ∷ ys)) (depth r (p ∷ y ∷ ys)) equal.0 ∙ (let d = ends_deep c (y ∷ ys) link equal.1 in omega arith))
    (λ (greater : (compare_parts p part ≡ Greater) × EndsAt r (p ∷ y ∷ ys) link). at_greater (compare_parts p part) _ _ _ greater.0 ∙ ends_deep r (p ∷ y ∷ ys) link greater.1)
    other)
    (unchosen (compare_parts p part) (EndsAt l (p ∷ y ∷ ys) link) (EndsAt c (y ∷ ys) link) (EndsAt r (p ∷ y ∷ ys) link) w)
