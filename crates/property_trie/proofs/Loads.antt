-- What the loads of a walk find, where the words spell the trie and the seat knows what it knows. From these facts a rule
-- meets the laws of loads.
use Rattle.std.proofs.Common.{◌≡◌, ◌≢◌, ℕ, zero, suc, ◌+◌, ◌-◌, ◌<◌, ◌≤◌, ◌⊎◌, List, [], ◌∷◌, length, drop, get_or, Option, Some, None, sym, refl, ap, ◌∙◌, subst, inl, inr, ⊎_elim, arith}
use Rattle.std.proofs.lemmas.List.{length-drop}
use Rattle.serial_value.specs.Words.{text_word}
use Rattle.property_trie.specs.Parts.{parts_of, node_size}
use Rattle.property_trie.specs.Tree.{Tree, Cell, find, depth, Extends}
use Rattle.property_trie.specs.Tree.Tree.{leaf, node}
use Rattle.property_trie.specs.Places.{Takes, LiesFrom, link_to}
use Rattle.property_trie.specs.TreeWords.{link_at, part_words}
use Rattle.property_trie.specs.TrieSteps.{LeadsTo, LeadsFrom, StandsAt, part_at, EndsFrom, ComesTo, missing_parts, NodeInside, CellInside}
use Rattle.property_trie.specs.Held.{TrieStands, TrailStands, SeatStands}
use Rattle.property_trie.specs.Walk.{WalksTo, Stands, EndsAt}
use Rattle.property_trie.specs.declared.view.Trail.{Trail}
use Rattle.property_trie.specs.declared.view.TrieView.{TrieView}
use Rattle.property_trie.proofs.Names.{first_part}
use Rattle.property_trie.proofs.Lies.{wide_cell, lies-lower}
use Rattle.property_trie.proofs.Cells.{found_takes}
use Rattle.property_trie.proofs.Extending.{extends-find}
use Rattle.property_trie.proofs.Walks.{walk_begins, Reached, reaches, ends_find}
use Rattle.property_trie.proofs.Standing.{stands_extends, stands_node, stands_goes, stands_ends, walk_rest}

abbrev Parts : Type 0
Parts = List (List ℕ)

-- all nodes lie as high as all words that are taken
lies_from : (low : ℕ) (t : Tree) → ((word : ℕ) → Takes t word → low ≤ word) → LiesFrom low t
lies_from low leaf taken = tt
lies_from low (node place part l r c cell) taken = (
  taken place (inl (omega arith, omega arith)),
  lies_from low l (λ word is. taken word (inr (inr (inl is)))),
  lies_from low r (λ word is. taken word (inr (inr (inr (inl is))))),
  lies_from low c (λ word is. taken word (inr (inr (inr (inr is))))),
)

record IsNode (t : Tree) : Type 0 where
  place : ℕ
  part : List ℕ
  left : Tree
  right : Tree
  children : Tree
  cell : Cell
  is : t ≡ node place part left right children cell

leaf_or_node : (t : Tree) → (t ≡ leaf) ⊎ IsNode t
leaf_or_node leaf = inl refl
leaf_or_node (node place part l r c cell) = inr (record { place = place; part = part; left = l; right = r; children = c; cell = cell; is = refl })

-- what a seat knows stays so while the tree grows
pub seat_extends : (t u : Tree) (trie : TrieView) → Extends t u → SeatStands t trie → SeatStands u trie
seat_extends t u trie more s = record {
  known = λ name place is. let k = s.known name place is in (k.0, extends-find t u (parts_of name) more (λ none. k.0 (sym k.1 ∙ none)) ∙ k.1);
  trail = trail_extends trie.trail s.trail;
}
  where
    trail_extends : (o : Option Trail) → TrailStands t o → TrailStands u o
    trail_extends None h = tt
    trail_extends (Some trail) h = stands_extends t u (parts_of trail.name) trail.place trail.part trail.rest more h

module _ (words : List ℕ) (tree : Tree) (mark : ℕ) (h : TrieStands words tree mark) (trie : TrieView) (s : SeatStands tree trie) where
  -- the part of the node that the walk stands at
  at_trail : (o : Option Trail) (place : ℕ) → TrailStands tree o → StandsAt o place
      → (get_or words place 0 ≡ length (part_at o)) × ((k : ℕ) → k < part_words (part_at o) → get_or words (place + 5 + k) 0 ≡ text_word (part_at o) k)
  at_trail None place t at = absurd at
  at_trail (Some trail) place t at =
      let n = stands_node tree (parts_of trail.name) trail.place trail.part trail.rest words t in
      subst (λ (p : ℕ). (get_or words p 0 ≡ length trail.part) × ((k : ℕ) → k < part_words trail.part → get_or words (p + 5 + k) 0 ≡ text_word trail.part k)) at
      (n.length_is h.holds.nodes, n.word_is h.holds.nodes)

  pub length_found : (place : ℕ) → StandsAt trie.trail place → get_or words place 0 ≡ length (part_at trie.trail)
  length_found place at = (at_trail trie.trail place s.trail at).0

  pub word_found : (place k : ℕ) → StandsAt trie.trail place → k < part_words (part_at trie.trail) → get_or words (place + 5 + k) 0 ≡ text_word (part_at trie.trail) k
  word_found place k at small = (at_trail trie.trail place s.trail at).1 k small

  module _ (name : List ℕ) where
    abbrev parts : Parts
    parts = parts_of name

    led : (o : Option Trail) (link : ℕ) (rest : Parts) → TrailStands tree o → LeadsFrom o name link rest → WalksTo tree 1 parts link rest
    led None link rest t from = absurd from
    led (Some trail) link rest t from =
        subst (λ (n : List ℕ). WalksTo tree 1 (parts_of n) link rest) from.0 (stands_goes tree 1 (parts_of trail.name) trail.place trail.part trail.rest link rest t from.1)

    walk_led : (link : ℕ) (rest : Parts) → LeadsTo trie name link rest → WalksTo tree 1 parts link rest
    walk_led link rest leads = ⊎_elim
        (λ (begin : (link ≡ 1) × (rest ≡ parts)). subst (λ (x : ℕ × Parts). WalksTo tree 1 parts x.0 x.1) (λ i. (sym begin.0 i, sym begin.1 i)) (walk_begins tree 1 parts))
        (λ from. led trie.trail link rest s.trail from)
        leads.next

    reached : (link : ℕ) (rest : Parts) → LeadsTo trie name link rest → Reached tree 1 parts link rest words
    reached link rest leads =
        reaches tree 1 parts link rest words (walk_led link rest leads) h.holds.top h.holds.nodes h.lies.apart h.lies.rising
        (lies-lower 2 16 tree (omega arith) (lies_from 16 tree (λ word is. (h.lies.within word is).0)))

    -- some part is left
    left_of : (link : ℕ) (rest : Parts) → WalksTo tree 1 parts link rest → (k : ℕ) × (k < length parts) × (rest ≡ drop k parts)
    left_of link rest w = let first = first_part name in
        subst (λ (ps : Parts). (k : ℕ) × (k < length ps) × (rest ≡ drop k ps)) (sym first.2)
        (walk_rest tree 1 first.0 first.1 link rest (subst (λ (ps : Parts). WalksTo tree 1 ps link rest) first.2 w))

    -- a link that is 0: the name has no cell, and the parts that are left have no node
    pub none_found : (link : ℕ) (rest : Parts) → LeadsTo trie name link rest → get_or words link 0 ≡ 0
        → (find tree parts ≡ 0) × (link ≡ link_at 1 tree parts) × (rest ≡ missing_parts tree parts)
    none_found link rest leads none_there = let k = reached link rest leads in ⊎_elim
        (λ (is : k.below ≡ leaf).
        let left = left_of link rest (walk_led link rest leads) in
        let deep = k.deep in
        let none : depth k.below rest ≡ 0 = ap (λ (b : Tree). depth b rest) is in
        let long = ap length left.2 ∙ length-drop left.0 parts in
        let small = left.1 in
        let same : left.0 ≡ depth tree parts = omega arith in (
          k.found ∙ ap (λ (b : Tree). find b rest) is,
          sym (k.same_link ∙ ap (λ (b : Tree). link_at link b rest) is),
          left.2 ∙ ap (λ (n : ℕ). drop n parts) same,
        ))
        (λ (n : IsNode k.below).
        let above = subst (LiesFrom (link + 1)) n.is k.above in
        let low = above.0 in
        let at = sym none_there ∙ (k.link_is ∙ ap link_to n.is) in
        absurd (omega arith))
        (leaf_or_node k.below)

    standing_first : (place : ℕ) (part : List ℕ) (l r c : Tree) (cell : Cell) (q : List ℕ) (qs : Parts) → Stands (node place part l r c cell) (q ∷ qs) place part (q ∷ qs)
    standing_first place part l r c cell q qs = inl (refl, refl, refl)

    first_left : (k : ℕ) (ps : Parts) → k < length ps → (q : List ℕ) × (qs : Parts) × (drop k ps ≡ q ∷ qs)
    first_left k [] small = absurd (omega arith)
    first_left zero (p ∷ ps) small = (p, ps, refl)
    first_left (suc k) (p ∷ ps) small = first_left k ps (omega arith)

    -- any other leads to a node, which lies above it, and at which the walk stands then
    pub node_found : (link : ℕ) (rest : Parts) → LeadsTo trie name link rest → get_or words link 0 ≢ 0
        → (part : List ℕ) × (link < get_or words link 0) × NodeInside (length words) (get_or words link 0) part × Stands tree parts (get_or words link 0) part rest
    node_found link rest leads some = let k = reached link rest leads in ⊎_elim
        (λ (is : k.below ≡ leaf). absurd (some (k.link_is ∙ ap link_to is)))
        (λ (n : IsNode k.below).
        let above = (subst (LiesFrom (link + 1)) n.is k.above).0 in
        let at : get_or words link 0 ≡ n.place = k.link_is ∙ ap link_to n.is in
        let left = left_of link rest (walk_led link rest leads) in
        let first = first_left left.0 parts left.1 in
        let stands : Stands tree parts n.place n.part rest =
        k.stands n.place n.part rest (subst (λ (x : Tree × Parts). Stands x.0 x.1 n.place n.part x.1) (λ i. (sym n.is i, sym (left.2 ∙ first.2) i)) (standing_first n.place n.part n.left n.right n.children n.cell first.0 first.1)) in
        let own = stands_node tree parts n.place n.part rest words stands in
        let last = h.lies.within (n.place + (node_size n.part - 1)) (own.taken (n.place + (node_size n.part - 1)) (omega arith, omega arith)) in
        let below = last.1 in
        let room = h.room in
        subst (λ (w : ℕ). (part : List ℕ) × (link < w) × NodeInside (length words) w part × Stands tree parts w part rest) (sym at)
        (n.part, omega arith, (omega arith, own.short h.parts), stands))
        (leaf_or_node k.below)

    ended : (o : Option Trail) (link : ℕ) → TrailStands tree o → EndsFrom o name link → EndsAt tree parts link
    ended None link t from = absurd from
    ended (Some trail) link t from =
        subst (λ (x : List ℕ × ℕ). EndsAt tree (parts_of x.0) x.1) (λ i. (from.0 i, sym from.1 i))
        (stands_ends tree (parts_of trail.name) trail.place trail.part (subst (λ (rest : Parts). Stands tree (parts_of trail.name) trail.place trail.part rest) from.2 t))

    pub ends_there : (link : ℕ) → ComesTo trie name link → EndsAt tree parts link
    ends_there link comes = ended trie.trail link s.trail comes.next

    -- the link to the cell is the place of the cell, 0 for none
    pub cell_found : (link : ℕ) → ComesTo trie name link → get_or words link 0 ≡ find tree parts
    cell_found link comes = ends_find tree parts link words (ends_there link comes) h.holds.nodes

    pub cell_inside : (link : ℕ) → ComesTo trie name link → get_or words link 0 ≢ 0 → CellInside (length words) (get_or words link 0)
    cell_inside link comes some =
        let at : find tree parts ≡ get_or words link 0 = sym (cell_found link comes) in
        let place : ℕ = find tree parts in
        let wide = wide_cell tree parts h.lies.wide (λ none. some (sym at ∙ none)) in
        let low = (h.lies.within place (found_takes tree parts place (omega arith, omega arith, omega arith))).0 in
        let high = (h.lies.within (place + 12) (found_takes tree parts (place + 12) (omega arith, omega arith, omega arith))).1 in
        let room = h.room in
        (omega arith, omega arith)
