-- A walk that stands at a node: it stays there while the tree grows, what its loads find, and where it goes on.
use Rattle.std.proofs.Common.{◌≡◌, ℕ, suc, ◌+◌, ◌<◌, List, [], ◌∷◌, length, drop, get_or, sym, refl, ap, ◌∙◌, subst, inl, inr, ⊎_elim, arith}
use Rattle.std.specs.declared.cmp.Ordering.{Ordering}
use Rattle.std.specs.declared.cmp.Ordering.TheVariants.{Less, Equal, Greater}
use Rattle.serial_value.specs.Words.{text_word}
use Rattle.property_trie.specs.Parts.{compare_parts}
use Rattle.property_trie.specs.Tree.{Tree, Cell, by_order, Extends}
use Rattle.property_trie.specs.Tree.Tree.{leaf, node}
use Rattle.property_trie.specs.Places.{InNode, Takes}
use Rattle.property_trie.specs.TreeWords.{TreeHolds, part_words}
use Rattle.property_trie.specs.TrieSteps.{IsShortText, GoesOn}
use Rattle.property_trie.specs.Held.{HasShortParts}
use Rattle.property_trie.specs.Walk.{WalksTo, Stands, EndsAt}
use Rattle.property_trie.proofs.Orders.{compare_same}
use Rattle.property_trie.proofs.Walks.{walk_begins, chosen_on, unchosen}

abbrev Parts : Type 0
Parts = List (List ℕ)

pub stands_extends : (t u : Tree) (parts : Parts) (at : ℕ) (own : List ℕ) (rest : Parts) → Extends t u → Stands t parts at own rest → Stands u parts at own rest
stands_extends leaf u parts at own rest h s = absurd s
stands_extends (node place part l r c cell) leaf parts at own rest h s = absurd h
stands_extends (node place part l r c cell) (node place' part' l' r' c' cell') [] at own rest h s = absurd s
stands_extends (node place part l r c cell) (node place' part' l' r' c' cell') (p ∷ []) at own rest h s = ⊎_elim
    (λ (here : (at ≡ place) × (own ≡ part) × (rest ≡ p ∷ [])). inl (here.0 ∙ sym h.0, here.1 ∙ sym h.1, here.2))
    (λ on. inr (subst (λ (x : List ℕ). by_order (compare_parts p x) (Stands l' (p ∷ []) at own rest) ⊥ (Stands r' (p ∷ []) at own rest)) (sym h.1)
    (chosen_on (compare_parts p part) (Stands l (p ∷ []) at own rest) ⊥ (Stands r (p ∷ []) at own rest) (Stands l' (p ∷ []) at own rest) ⊥ (Stands r' (p ∷ []) at own rest)
    (λ e. stands_extends l l' (p ∷ []) at own rest h.2) (λ e none. none) (λ e. stands_extends r r' (p ∷ []) at own rest h.3) on)))
    s
stands_extends (node place part l r c cell) (node place' part' l' r' c' cell') (p ∷ y ∷ ys) at own rest h s = ⊎_elim
    (λ (here : (at ≡ place) × (own ≡ part) × (rest ≡ p ∷ y ∷ ys)). inl (here.0 ∙ sym h.0, here.1 ∙ sym h.1, here.2))
    (λ on. inr (subst (λ (x : List ℕ). by_order (compare_parts p x) (Stands l' (p ∷ y ∷ ys) at own rest) (Stands c' (y ∷ ys) at own rest) (Stands r' (p ∷ y ∷ ys) at own rest)) (sym h.1)
    (chosen_on (compare_parts p part) (Stands l (p ∷ y ∷ ys) at own rest) (Stands c (y ∷ ys) at own rest) (Stands r (p ∷ y ∷ ys) at own rest)
    (Stands l' (p ∷ y ∷ ys) at own rest) (Stands c' (y ∷ ys) at own rest) (Stands r' (p ∷ y ∷ ys) at own rest)
    (λ e. stands_extends l l' (p ∷ y ∷ ys) at own rest h.2) (λ e. stands_extends c c' (y ∷ ys) at own rest h.4) (λ e. stands_extends r r' (p ∷ y ∷ ys) at own rest h.3) on)))
    s

-- What holds of a node that a walk stands at.
pub record Node (t : Tree) (words : List ℕ) (at : ℕ) (own : List ℕ) : Type 0 where
  pub taken : (word : ℕ) → InNode at own word → Takes t word
  pub short : HasShortParts t → IsShortText own
  pub length_is : TreeHolds words t → get_or words at 0 ≡ length own
  pub word_is : TreeHolds words t → (k : ℕ) → k < part_words own → get_or words (at + 5 + k) 0 ≡ text_word own k

module _ (place : ℕ) (part : List ℕ) (l r c : Tree) (cell : Cell) (words : List ℕ) (at : ℕ) (own : List ℕ) where
  abbrev whole : Tree
  whole = node place part l r c cell

  node_here : at ≡ place → own ≡ part → Node whole words at own
  node_here here same = subst (λ (x : ℕ × List ℕ). Node whole words x.0 x.1) (λ i. (sym here i, sym same i)) record {
    taken = λ word is. inl is;
    short = λ h. h.0;
    length_is = λ h. h.0.length_is;
    word_is = λ h k small. h.0.part_is k small;
  }

  node_left : Node l words at own → Node whole words at own
  node_left n = record {
    taken = λ word is. inr (inr (inl (n.taken word is)));
    short = λ h. n.short h.1;
    length_is = λ h. n.length_is h.1;
    word_is = λ h. n.word_is h.1;
  }

  node_right : Node r words at own → Node whole words at own
  node_right n = record {
    taken = λ word is. inr (inr (inr (inl (n.taken word is))));
    short = λ h. n.short h.2;
    length_is = λ h. n.length_is h.2;
    word_is = λ h. n.word_is h.2;
  }

  node_children : Node c words at own → Node whole words at own
  node_children n = record {
    taken = λ word is. inr (inr (inr (inr (n.taken word is))));
    short = λ h. n.short h.3;
    length_is = λ h. n.length_is h.3;
    word_is = λ h. n.word_is h.3;
  }

pub stands_node : (t : Tree) (parts : Parts) (at : ℕ) (own : List ℕ) (rest : Parts) (words : List ℕ) → Stands t parts at own rest → Node t words at own
stands_node leaf parts at own rest words s = absurd s
stands_node (node place part l r c cell) [] at own rest words s = absurd s
stands_node (node place part l r c cell) (p ∷ []) at own rest words s = ⊎_elim
    (λ (here : (at ≡ place) × (own ≡ part) × (rest ≡ p ∷ [])). node_here place part l r c cell words at own here.0 here.1)
    (λ on. ⊎_elim
    (λ (less : (compare_parts p part ≡ Less) × Stands l (p ∷ []) at own rest). node_left place part l r c cell words at own (stands_node l (p ∷ []) at own rest words less.1))
    (λ other. ⊎_elim
    (λ (equal : (compare_parts p part ≡ Equal) × ⊥). absurd equal.1)
    (λ (greater : (compare_parts p part ≡ Greater) × Stands r (p ∷ []) at own rest). node_right place part l r c cell words at own (stands_node r (p ∷ []) at own rest words greater.1))
    other)
    (unchosen (compare_parts p part) (Stands l (p ∷ []) at own rest) ⊥ (Stands r (p ∷ []) at own rest) on))
    s
stands_node (node place part l r c cell) (p ∷ y ∷ ys) at own rest words s = ⊎_elim
    (λ (here : (at ≡ place) × (own ≡ part) × (rest ≡ p ∷ y ∷ ys)). node_here place part l r c cell words at own here.0 here.1)
    (λ on. ⊎_elim
    (λ (less : (compare_parts p part ≡ Less) × Stands l (p ∷ y ∷ ys) at own rest). node_left place part l r c cell words at own (stands_node l (p ∷ y ∷ ys) at own rest words less.1))
    (λ other. ⊎_elim
    (λ (equal : (compare_parts p part ≡ Equal) × Stands c (y ∷ ys) at own rest). node_children place part l r c cell words at own (stands_node c (y ∷ ys) at own rest words equal.1))
    (λ (greater : (compare_parts p part ≡ Greater) × Stands r (p ∷ y ∷ ys) at own rest). node_right place part l r c cell words at own (stands_node r (p ∷ y ∷ ys) at own rest words greater.1))
    other)
    (unchosen (compare_parts p part) (Stands l (p ∷ y ∷ ys) at own rest) (Stands c (y ∷ ys) at own rest) (Stands r (p ∷ y ∷ ys) at own rest) on))
    s

-- a walk that begins at a node goes on from it
goes_here : (place : ℕ) (part : List ℕ) (l r c : Tree) (cell : Cell) (top : ℕ) (parts : Parts) (link : ℕ) (rest : Parts) → GoesOn place part parts link rest
    → WalksTo (node place part l r c cell) top parts link rest
goes_here place part l r c cell top [] link rest goes = absurd goes
goes_here place part l r c cell top (p ∷ []) link rest goes = inr (chosen_on (compare_parts p part)
    ((link ≡ place + 1) × (rest ≡ p ∷ [])) ⊥ ((link ≡ place + 2) × (rest ≡ p ∷ []))
    (WalksTo l (place + 1) (p ∷ []) link rest) ⊥ (WalksTo r (place + 2) (p ∷ []) link rest)
    (λ e to. subst (λ (x : ℕ × Parts). WalksTo l (place + 1) (p ∷ []) x.0 x.1) (λ i. (sym to.0 i, sym to.1 i)) (walk_begins l (place + 1) (p ∷ [])))
    (λ e none. none)
    (λ e to. subst (λ (x : ℕ × Parts). WalksTo r (place + 2) (p ∷ []) x.0 x.1) (λ i. (sym to.0 i, sym to.1 i)) (walk_begins r (place + 2) (p ∷ [])))
    goes)
goes_here place part l r c cell top (p ∷ y ∷ ys) link rest goes = inr (chosen_on (compare_parts p part)
    ((link ≡ place + 1) × (rest ≡ p ∷ y ∷ ys)) ((link ≡ place + 3) × (rest ≡ y ∷ ys)) ((link ≡ place + 2) × (rest ≡ p ∷ y ∷ ys))
    (WalksTo l (place + 1) (p ∷ y ∷ ys) link rest) (WalksTo c (place + 3) (y ∷ ys) link rest) (WalksTo r (place + 2) (p ∷ y ∷ ys) link rest)
    (λ e to. subst (λ (x : ℕ × Parts). WalksTo l (place + 1) (p ∷ y ∷ ys) x.0 x.1) (λ i. (sym to.0 i, sym to.1 i)) (walk_begins l (place + 1) (p ∷ y ∷ ys)))
    (λ e to. subst (λ (x : ℕ × Parts). WalksTo c (place + 3) (y ∷ ys) x.0 x.1) (λ i. (sym to.0 i, sym to.1 i)) (walk_begins c (place + 3) (y ∷ ys)))
    (λ e to. subst (λ (x : ℕ × Parts). WalksTo r (place + 2) (p ∷ y ∷ ys) x.0 x.1) (λ i. (sym to.0 i, sym to.1 i)) (walk_begins r (place + 2) (p ∷ y ∷ ys)))
    goes)

pub stands_goes : (t : Tree) (top : ℕ) (parts : Parts) (at : ℕ) (own : List ℕ) (left : Parts) (link : ℕ) (rest : Parts) → Stands t parts at own left → GoesOn at own left link rest
    → WalksTo t top parts link rest
stands_goes leaf top parts at own left link rest s goes = absurd s
stands_goes (node place part l r c cell) top [] at own left link rest s goes = absurd s
stands_goes (node place part l r c cell) top (p ∷ []) at own left link rest s goes = ⊎_elim
    (λ (here : (at ≡ place) × (own ≡ part) × (left ≡ p ∷ [])).
    goes_here place part l r c cell top (p ∷ []) link rest (subst (λ (x : ℕ × List ℕ × Parts). GoesOn x.0 x.1 x.2 link rest) (λ i. (here.0 i, here.1 i, here.2 i)) goes))
    (λ on. inr (chosen_on (compare_parts p part) (Stands l (p ∷ []) at own left) ⊥ (Stands r (p ∷ []) at own left)
    (WalksTo l (place + 1) (p ∷ []) link rest) ⊥ (WalksTo r (place + 2) (p ∷ []) link rest)
    (λ e w. stands_goes l (place + 1) (p ∷ []) at own left link rest w goes) (λ e none. none) (λ e w. stands_goes r (place + 2) (p ∷ []) at own left link rest w goes) on))
    s
stands_goes (node place part l r c cell) top (p ∷ y ∷ ys) at own left link rest s goes = ⊎_elim
    (λ (here : (at ≡ place) × (own ≡ part) × (left ≡ p ∷ y ∷ ys)).
    goes_here place part l r c cell top (p ∷ y ∷ ys) link rest (subst (λ (x : ℕ × List ℕ × Parts). GoesOn x.0 x.1 x.2 link rest) (λ i. (here.0 i, here.1 i, here.2 i)) goes))
    (λ on. inr (chosen_on (compare_parts p part) (Stands l (p ∷ y ∷ ys) at own left) (Stands c (y ∷ ys) at own left) (Stands r (p ∷ y ∷ ys) at own left)
    (WalksTo l (place + 1) (p ∷ y ∷ ys) link rest) (WalksTo c (place + 3) (y ∷ ys) link rest) (WalksTo r (place + 2) (p ∷ y ∷ ys) link rest)
    (λ e w. stands_goes l (place + 1) (p ∷ y ∷ ys) at own left link rest w goes) (λ e w. stands_goes c (place + 3) (y ∷ ys) at own left link rest w goes)
    (λ e w. stands_goes r (place + 2) (p ∷ y ∷ ys) at own left link rest w goes) on))
    s

ends_here : (place : ℕ) (part : List ℕ) (l r c : Tree) (cell : Cell) (p : List ℕ) (ps : Parts) (own : List ℕ) → own ≡ part → own ∷ [] ≡ p ∷ ps → EndsAt (node place part l r c cell) (p ∷ ps) (place + 4)
ends_here place part l r c cell p [] own same last =
    let e : p ≡ part = cc in
    subst (λ (o : Ordering). by_order o (EndsAt l (p ∷ []) (place + 4)) (place + 4 ≡ place + 4) (EndsAt r (p ∷ []) (place + 4))) (sym (ap (λ (q : List ℕ). compare_parts q part) e ∙ compare_same part)) refl
ends_here place part l r c cell p (y ∷ ys) own same last = absurd (cc)

-- at the node of the last part it ends
pub stands_ends : (t : Tree) (parts : Parts) (at : ℕ) (own : List ℕ) → Stands t parts at own (own ∷ []) → EndsAt t parts (at + 4)
stands_ends leaf parts at own s = absurd s
stands_ends (node place part l r c cell) [] at own s = absurd s
stands_ends (node place part l r c cell) (p ∷ []) at own s = ⊎_elim
    (λ (here : (at ≡ place) × (own ≡ part) × (own ∷ [] ≡ p ∷ [])).
    subst (λ (k : ℕ). EndsAt (node place part l r c cell) (p ∷ []) (k + 4)) (sym here.0) (ends_here place part l r c cell p [] own here.1 here.2))
    (λ on. chosen_on (compare_parts p part) (Stands l (p ∷ []) at own (own ∷ [])) ⊥ (Stands r (p ∷ []) at own (own ∷ []))
    (EndsAt l (p ∷ []) (at + 4)) (at + 4 ≡ place + 4) (EndsAt r (p ∷ []) (at + 4))
    (λ e w. stands_ends l (p ∷ []) at own w) (λ e none. absurd none) (λ e w. stands_ends r (p ∷ []) at own w) on)
    s
stands_ends (node place part l r c cell) (p ∷ y ∷ ys) at own s = ⊎_elim
    (λ (here : (at ≡ place) × (own ≡ part) × (own ∷ [] ≡ p ∷ y ∷ ys)). absurd (cc))
    (λ on. chosen_on (compare_parts p part) (Stands l (p ∷ y ∷ ys) at own (own ∷ [])) (Stands c (y ∷ ys) at own (own ∷ [])) (Stands r (p ∷ y ∷ ys) at own (own ∷ []))
    (EndsAt l (p ∷ y ∷ ys) (at + 4)) (EndsAt c (y ∷ ys) (at + 4)) (EndsAt r (p ∷ y ∷ ys) (at + 4))
    (λ e w. stands_ends l (p ∷ y ∷ ys) at own w) (λ e w. stands_ends c (y ∷ ys) at own w) (λ e w. stands_ends r (p ∷ y ∷ ys) at own w) on)
    s

-- the parts that a walk has left are the last ones of those that it began with
pub walk_rest : (t : Tree) (top : ℕ) (p : List ℕ) (ps : Parts) (link : ℕ) (rest : Parts) → WalksTo t top (p ∷ ps) link rest → (k : ℕ) × (k < length (p ∷ ps)) × (rest ≡ drop k (p ∷ ps))
walk_rest leaf top p ps link rest w = (0, omega arith, w.1)
walk_rest (node place part l r c cell) top p [] link rest w = ⊎_elim
    (λ (here : (link ≡ top) × (rest ≡ p ∷ [])). (0, omega arith, here.1))
    (λ on. ⊎_elim
    (λ (less : (compare_parts p part ≡ Less) × WalksTo l (place + 1) (p ∷ []) link rest). walk_rest l (place + 1) p [] link rest less.1)
    (λ other. ⊎_elim
    (λ (equal : (compare_parts p part ≡ Equal) × ⊥). absurd equal.1)
    (λ (greater : (compare_parts p part ≡ Greater) × WalksTo r (place + 2) (p ∷ []) link rest). walk_rest r (place + 2) p [] link rest greater.1)
    other)
    (unchosen (compare_parts p part) (WalksTo l (place + 1) (p ∷ []) link rest) ⊥ (WalksTo r (place + 2) (p ∷ []) link rest) on))
    w
walk_rest (node place part l r c cell) top p (y ∷ ys) link rest w = ⊎_elim
    (λ (here : (link ≡ top) × (rest ≡ p ∷ y ∷ ys)). (0, omega arith, here.1))
    (λ on. ⊎_elim
    (λ (less : (compare_parts p part ≡ Less) × WalksTo l (place + 1) (p ∷ y ∷ ys) link rest). walk_rest l (place + 1) p (y ∷ ys) link rest less.1)
    (λ other. ⊎_elim
    (λ (equal : (compare_parts p part ≡ Equal) × WalksTo c (place + 3) (y ∷ ys) link rest). let k = walk_rest c (place + 3) y ys link rest equal.1 in (suc k.0, omega arith, k.2))
    (λ (greater : (compare_parts p part ≡ Greater) × WalksTo r (place + 2) (p ∷ y ∷ ys) link rest). walk_rest r (place + 2) p (y ∷ ys) link rest greater.1)
    other)
    (unchosen (compare_parts p part) (WalksTo l (place + 1) (p ∷ y ∷ ys) link rest) (WalksTo c (place + 3) (y ∷ ys) link rest) (WalksTo r (place + 2) (p ∷ y ∷ ys) link rest) on))
    w
