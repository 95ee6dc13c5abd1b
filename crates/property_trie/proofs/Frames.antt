-- A store beside the nodes of a tree changes none of them, and a link to a new node is growth by it.
use Rattle.std.proofs.Common.{◌≡◌, ℕ, ◌+◌, ◌<◌, ◌⊎◌, List, [], ◌∷◌, length, get_or, set, sym, refl, ap, ◌∙◌, subst, inl, inr, ⊎_elim, arith, get_or-set_other, get_or-set_same}
use Rattle.std.specs.declared.cmp.Ordering.TheVariants.{Less, Equal, Greater}
use Rattle.property_trie.specs.Parts.{compare_parts, node_size}
use Rattle.property_trie.specs.Tree.{Tree, Cell, no_cell, by_order, depth, chain, grown}
use Rattle.property_trie.specs.Tree.Tree.{leaf, node}
use Rattle.property_trie.specs.Places.{link_to, InNode, Takes, IsApart}
use Rattle.property_trie.specs.TreeWords.{NodeHolds, TreeHolds, link_at, missing_part}
use Rattle.property_trie.proofs.Lies.{Below}

abbrev Parts : Type 0
Parts = List (List ℕ)

-- the word is one of a node
abbrev pub InNodes : Tree → ℕ → Type 0
InNodes leaf word = ⊥
InNodes (node place part l r c cell) word = InNode place part word ⊎ (InNodes l word ⊎ (InNodes r word ⊎ InNodes c word))

pub nodes_take : (t : Tree) (word : ℕ) → InNodes t word → Takes t word
nodes_take leaf word is = is
nodes_take (node place part l r c cell) word is = ⊎_elim (λ own. inl own) (λ a. ⊎_elim
    (λ left. inr (inr (inl (nodes_take l word left)))) (λ b. ⊎_elim
    (λ right. inr (inr (inr (inl (nodes_take r word right)))))
    (λ children. inr (inr (inr (inr (nodes_take c word children))))) b) a) is

module _ (words : List ℕ) (i n place : ℕ) (part : List ℕ) (left right children cell : ℕ) (h : NodeHolds words place part left right children cell) where
  abbrev stored : List ℕ
  stored = set words i n

  -- a store beside the node
  pub node_else : (InNode place part i → ⊥) → NodeHolds stored place part left right children cell
  node_else outside = record {
    length_is = get_or-set_other words i place n 0 (λ e. outside (omega arith, omega arith)) ∙ h.length_is;
    left_is = get_or-set_other words i (place + 1) n 0 (λ e. outside (omega arith, omega arith)) ∙ h.left_is;
    right_is = get_or-set_other words i (place + 2) n 0 (λ e. outside (omega arith, omega arith)) ∙ h.right_is;
    children_is = get_or-set_other words i (place + 3) n 0 (λ e. outside (omega arith, omega arith)) ∙ h.children_is;
    cell_is = get_or-set_other words i (place + 4) n 0 (λ e. outside (omega arith, omega arith)) ∙ h.cell_is;
    part_is = λ k small. get_or-set_other words i (place + 5 + k) n 0 (λ e. outside (omega arith, omega arith)) ∙ h.part_is k small;
  }

  -- one of its links may have changed
  pub node_left : (i ≡ place + 1) ⊎ (InNode place part i → ⊥) → (x : ℕ) → get_or stored (place + 1) 0 ≡ x → NodeHolds stored place part x right children cell
  node_left at x is = ⊎_elim
      (λ (e : i ≡ place + 1). record {
        length_is = get_or-set_other words i place n 0 (λ f. omega arith) ∙ h.length_is;
        left_is = is;
        right_is = get_or-set_other words i (place + 2) n 0 (λ f. omega arith) ∙ h.right_is;
        children_is = get_or-set_other words i (place + 3) n 0 (λ f. omega arith) ∙ h.children_is;
        cell_is = get_or-set_other words i (place + 4) n 0 (λ f. omega arith) ∙ h.cell_is;
        part_is = λ k small. get_or-set_other words i (place + 5 + k) n 0 (λ f. omega arith) ∙ h.part_is k small;
      })
      (λ outside. let o = node_else outside in record {
        length_is = o.length_is;
        left_is = is;
        right_is = o.right_is;
        children_is = o.children_is;
        cell_is = o.cell_is;
        part_is = o.part_is;
      })
      at

  pub node_right : (i ≡ place + 2) ⊎ (InNode place part i → ⊥) → (x : ℕ) → get_or stored (place + 2) 0 ≡ x → NodeHolds stored place part left x children cell
  node_right at x is = ⊎_elim
      (λ (e : i ≡ place + 2). record {
        length_is = get_or-set_other words i place n 0 (λ f. omega arith) ∙ h.length_is;
        left_is = get_or-set_other words i (place + 1) n 0 (λ f. omega arith) ∙ h.left_is;
        right_is = is;
        children_is = get_or-set_other words i (place + 3) n 0 (λ f. omega arith) ∙ h.children_is;
        cell_is = get_or-set_other words i (place + 4) n 0 (λ f. omega arith) ∙ h.cell_is;
        part_is = λ k small. get_or-set_other words i (place + 5 + k) n 0 (λ f. omega arith) ∙ h.part_is k small;
      })
      (λ outside. let o = node_else outside in record {
        length_is = o.length_is;
        left_is = o.left_is;
        right_is = is;
        children_is = o.children_is;
        cell_is = o.cell_is;
        part_is = o.part_is;
      })
      at

  pub node_children : (i ≡ place + 3) ⊎ (InNode place part i → ⊥) → (x : ℕ) → get_or stored (place + 3) 0 ≡ x → NodeHolds stored place part left right x cell
  node_children at x is = ⊎_elim
      (λ (e : i ≡ place + 3). record {
        length_is = get_or-set_other words i place n 0 (λ f. omega arith) ∙ h.length_is;
        left_is = get_or-set_other words i (place + 1) n 0 (λ f. omega arith) ∙ h.left_is;
        right_is = get_or-set_other words i (place + 2) n 0 (λ f. omega arith) ∙ h.right_is;
        children_is = is;
        cell_is = get_or-set_other words i (place + 4) n 0 (λ f. omega arith) ∙ h.cell_is;
        part_is = λ k small. get_or-set_other words i (place + 5 + k) n 0 (λ f. omega arith) ∙ h.part_is k small;
      })
      (λ outside. let o = node_else outside in record {
        length_is = o.length_is;
        left_is = o.left_is;
        right_is = o.right_is;
        children_is = is;
        cell_is = o.cell_is;
        part_is = o.part_is;
      })
      at

-- a store beside all nodes, as at or above the mark
pub tree_else : (words : List ℕ) (i n : ℕ) (t : Tree) → (InNodes t i → ⊥) → TreeHolds words t → TreeHolds (set words i n) t
tree_else words i n leaf outside h = tt
tree_else words i n (node place part l r c cell) outside h = (
  node_else words i n place part (link_to l) (link_to r) (link_to c) cell.place h.0 (λ own. outside (inl own)),
  tree_else words i n l (λ left. outside (inr (inl left))) h.1,
  tree_else words i n r (λ right. outside (inr (inr (inl right)))) h.2,
  tree_else words i n c (λ children. outside (inr (inr (inr children)))) h.3,
)

-- What has to be known before a node is linked that begins at `place`, where the link to the tree stands at `top`.
pub record Ready (t : Tree) (top : ℕ) (words : List ℕ) (place : ℕ) : Type 0 where
  pub apart : IsApart t
  pub outside : Takes t top → ⊥
  pub wide : top < length words
  pub inside : Below (length words) t
  pub below : Below place t
  pub above : top < place
  pub link : get_or words top 0 ≡ link_to t
  pub holds : TreeHolds words t

module _ (at : ℕ) (part : List ℕ) (l r c : Tree) (cell : Cell) (top : ℕ) (words : List ℕ) (place : ℕ) (h : Ready (node at part l r c cell) top words place) where
  own : (j : ℕ) → j < 5 → InNode at part (at + j)
  own j small = (omega arith, omega arith)

  pub ready_left : Ready l (at + 1) words place
  ready_left = record {
    apart = h.apart.10;
    outside = λ is. h.apart.1 (at + 1) (own 1 (omega arith)) is;
    wide = h.inside (at + 1) (inl (own 1 (omega arith)));
    inside = λ word is. h.inside word (inr (inr (inl is)));
    below = λ word is. h.below word (inr (inr (inl is)));
    above = h.below (at + 1) (inl (own 1 (omega arith)));
    link = h.holds.0.left_is;
    holds = h.holds.1;
  }

  pub ready_right : Ready r (at + 2) words place
  ready_right = record {
    apart = h.apart.11;
    outside = λ is. h.apart.2 (at + 2) (own 2 (omega arith)) is;
    wide = h.inside (at + 2) (inl (own 2 (omega arith)));
    inside = λ word is. h.inside word (inr (inr (inr (inl is))));
    below = λ word is. h.below word (inr (inr (inr (inl is))));
    above = h.below (at + 2) (inl (own 2 (omega arith)));
    link = h.holds.0.right_is;
    holds = h.holds.2;
  }

  pub ready_children : Ready c (at + 3) words place
  ready_children = record {
    apart = h.apart.12;
    outside = λ is. h.apart.3 (at + 3) (own 3 (omega arith)) is;
    wide = h.inside (at + 3) (inl (own 3 (omega arith)));
    inside = λ word is. h.inside word (inr (inr (inr (inr is))));
    below = λ word is. h.below word (inr (inr (inr (inr is))));
    above = h.below (at + 3) (inl (own 3 (omega arith)));
    link = h.holds.0.children_is;
    holds = h.holds.3;
  }

-- the link stands at the top or in a node
pub link_in : (top : ℕ) (t : Tree) (parts : Parts) → depth t parts < length parts → (link_at top t parts ≡ top) ⊎ InNodes t (link_at top t parts)
link_in top leaf parts short = inl refl
link_in top (node at part l r c cell) [] short = inl refl
link_in top (node at part l r c cell) (p ∷ ps) short =
    inr (elim (compare_parts p part) as (λ o. by_order o (depth l (p ∷ ps)) (1 + depth c ps) (depth r (p ∷ ps)) < length (p ∷ ps)
    → InNodes (node at part l r c cell) (by_order o (link_at (at + 1) l (p ∷ ps)) (link_at (at + 3) c ps) (link_at (at + 2) r (p ∷ ps)))) [
      | Less ↦ λ s. ⊎_elim (λ (e : link_at (at + 1) l (p ∷ ps) ≡ at + 1). inl (omega arith, omega arith)) (λ is. inr (inl is)) (link_in (at + 1) l (p ∷ ps) s)
      | Equal ↦ λ s. ⊎_elim (λ (e : link_at (at + 3) c ps ≡ at + 3). inl (omega arith, omega arith)) (λ is. inr (inr (inr is))) (link_in (at + 3) c ps (omega arith))
      | Greater ↦ λ s. ⊎_elim (λ (e : link_at (at + 2) r (p ∷ ps) ≡ at + 2). inl (omega arith, omega arith)) (λ is. inr (inr (inl is))) (link_in (at + 2) r (p ∷ ps) s)
    ] short)

-- the words after a store of the link spell a tree
abbrev pub Spells : List ℕ → ℕ → ℕ → ℕ → Tree → Type 0
Spells words top link place t = (get_or (set words link place) top 0 ≡ link_to t) × TreeHolds (set words link place) t

module _ (at : ℕ) (part : List ℕ) (l r c : Tree) (cell : Cell) (top : ℕ) (words : List ℕ) (place : ℕ) (h : Ready (node at part l r c cell) top words place) where
  abbrev whole : Tree
  whole = node at part l r c cell

  -- the link isn't the top's
  top_stays : (link : ℕ) → InNodes whole link → get_or (set words link place) top 0 ≡ at
  top_stays link is = get_or-set_other words link top place 0 (λ e. h.outside (subst (Takes whole) (sym e) (nodes_take whole link is))) ∙ h.link

  pub links_left : (link : ℕ) (more : Tree) → (link ≡ at + 1) ⊎ InNodes l link → Spells words (at + 1) link place more → Spells words top link place (node at part more r c cell)
  links_left link more where_is spells =
      let in_whole : InNodes whole link = ⊎_elim (λ (e : link ≡ at + 1). inl (omega arith, omega arith)) (λ is. inr (inl is)) where_is in (
        top_stays link in_whole,
        (
          node_left words link place at part (link_to l) (link_to r) (link_to c) cell.place h.holds.0
              (⊎_elim (λ e. inl e) (λ is. inr (λ own. h.apart.1 link own (nodes_take l link is))) where_is) (link_to more) spells.0,
          spells.1,
          tree_else words link place r (λ is. ⊎_elim
              (λ (e : link ≡ at + 1). h.apart.2 link (omega arith, omega arith) (nodes_take r link is))
              (λ left. h.apart.7 link (nodes_take l link left) (nodes_take r link is)) where_is) h.holds.2,
          tree_else words link place c (λ is. ⊎_elim
              (λ (e : link ≡ at + 1). h.apart.3 link (omega arith, omega arith) (nodes_take c link is))
              (λ left. h.apart.8 link (nodes_take l link left) (nodes_take c link is)) where_is) h.holds.3,
        ),
      )

  pub links_right : (link : ℕ) (more : Tree) → (link ≡ at + 2) ⊎ InNodes r link → Spells words (at + 2) link place more → Spells words top link place (node at part l more c cell)
  links_right link more where_is spells =
      let in_whole : InNodes whole link = ⊎_elim (λ (e : link ≡ at + 2). inl (omega arith, omega arith)) (λ is. inr (inr (inl is))) where_is in (
        top_stays link in_whole,
        (
          node_right words link place at part (link_to l) (link_to r) (link_to c) cell.place h.holds.0
              (⊎_elim (λ e. inl e) (λ is. inr (λ own. h.apart.2 link own (nodes_take r link is))) where_is) (link_to more) spells.0,
          tree_else words link place l (λ is. ⊎_elim
              (λ (e : link ≡ at + 2). h.apart.1 link (omega arith, omega arith) (nodes_take l link is))
              (λ right. h.apart.7 link (nodes_take l link is) (nodes_take r link right)) where_is) h.holds.1,
          spells.1,
          tree_else words link place c (λ is. ⊎_elim
              (λ (e : link ≡ at + 2). h.apart.3 link (omega arith, omega arith) (nodes_take c link is))
              (λ right. h.apart.9 link (nodes_take r link right) (nodes_take c link is)) where_is) h.holds.3,
        ),
      )

  pub links_children : (link : ℕ) (more : Tree) → (link ≡ at + 3) ⊎ InNodes c link → Spells words (at + 3) link place more → Spells words top link place (node at part l r more cell)
  links_children link more where_is spells =
      let in_whole : InNodes whole link = ⊎_elim (λ (e : link ≡ at + 3). inl (omega arith, omega arith)) (λ is. inr (inr (inr is))) where_is in (
        top_stays link in_whole,
        (
          node_children words link place at part (link_to l) (link_to r) (link_to c) cell.place h.holds.0
              (⊎_elim (λ e. inl e) (λ is. inr (λ own. h.apart.3 link own (nodes_take c link is))) where_is) (link_to more) spells.0,
          tree_else words link place l (λ is. ⊎_elim
              (λ (e : link ≡ at + 3). h.apart.1 link (omega arith, omega arith) (nodes_take l link is))
              (λ below. h.apart.8 link (nodes_take l link is) (nodes_take c link below)) where_is) h.holds.1,
          tree_else words link place r (λ is. ⊎_elim
              (λ (e : link ≡ at + 3). h.apart.2 link (omega arith, omega arith) (nodes_take r link is))
              (λ below. h.apart.9 link (nodes_take r link is) (nodes_take c link below)) where_is) h.holds.2,
          spells.1,
        ),
      )

chain_none : (ps : Parts) (place : ℕ) → chain 0 ps place ≡ leaf
chain_none [] place = refl
chain_none (p ∷ ps) place = refl

first_node : (p : List ℕ) (ps : Parts) (place : ℕ) → chain 1 (p ∷ ps) place ≡ node place p leaf leaf leaf no_cell
first_node p ps place = ap (λ (t : Tree). node place p leaf leaf t no_cell) (chain_none ps (place + node_size p))

-- the link to a new node, whose words stand already, is growth by that node
pub links : (t : Tree) (parts : Parts) (top : ℕ) (words : List ℕ) (place : ℕ) → depth t parts < length parts
    → Ready t top words place → NodeHolds words place (missing_part t parts) 0 0 0 0
    → Spells words top (link_at top t parts) place (grown 1 t parts place)
links leaf [] top words place short ready new = absurd (omega arith)
links leaf (p ∷ ps) top words place short ready new =
    subst (Spells words top top place) (sym (first_node p ps place)) (
      get_or-set_same words top place 0 ready.wide,
      (node_else words top place place p 0 0 0 0 new (λ is. let a = is.0 in let b = ready.above in omega arith), tt, tt, tt),
    )
links (node at part l r c cell) [] top words place short ready new = absurd (omega arith)
links (node at part l r c cell) (p ∷ ps) top words place short ready new =
    elim (compare_parts p part) as (λ o. by_order o (depth l (p ∷ ps)) (1 + depth c ps) (depth r (p ∷ ps)) < length (p ∷ ps)
    → NodeHolds words place (by_order o (missing_part l (p ∷ ps)) (missing_part c ps) (missing_part r (p ∷ ps))) 0 0 0 0
    → Spells words top (by_order o (link_at (at + 1) l (p ∷ ps)) (link_at (at + 3) c ps) (link_at (at + 2) r (p ∷ ps))) place
    (by_order o (node at part (grown 1 l (p ∷ ps) place) r c cell) (node at part l r (grown 1 c ps place) cell) (node at part l (grown 1 r (p ∷ ps) place) c cell))) [
      | Less ↦ λ s n. links_left at part l r c cell top words place ready (link_at (at + 1) l (p ∷ ps)) (grown 1 l (p ∷ ps) place)
          (link_in (at + 1) l (p ∷ ps) s) (links l (p ∷ ps) (at + 1) words place s (ready_left at part l r c cell top words place ready) n)
      | Equal ↦ λ s n. let s' : depth c ps < length ps = omega arith in
          links_children at part l r c cell top words place ready (link_at (at + 3) c ps) (grown 1 c ps place)
          (link_in (at + 3) c ps s') (links c ps (at + 3) words place s' (ready_children at part l r c cell top words place ready) n)
      | Greater ↦ λ s n. links_right at part l r c cell top words place ready (link_at (at + 2) r (p ∷ ps)) (grown 1 r (p ∷ ps) place)
          (link_in (at + 2) r (p ∷ ps) s) (links r (p ∷ ps) (at + 2) words place s (ready_right at part l r c cell top words place ready) n)
    ] short new
