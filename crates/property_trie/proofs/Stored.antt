-- What the stores of an addition leave: a fresh word changes no node, and the link to a node whose words stand is growth by
-- that node.
use Rattle.std.proofs.Common.{◌≡◌, ℕ, zero, suc, ◌+◌, ◌-◌, ◌<◌, ◌≤◌, ◌⊎◌, List, [], ◌∷◌, ◌++◌, length, drop, get_or, set, sym, refl, ap, ◌∙◌, subst, inl, inr, ⊎_elim, arith, length-set, get_or-set_other, get_or-set_same}
use Rattle.std.proofs.lemmas.List.{length-append, length-drop, drop-drop}
use mathlib.Core.Logic.{dite}
use native.Mathlib.Decide.{dec_lt}
use Rattle.std.specs.declared.cmp.Ordering.TheVariants.{Less, Equal, Greater}
use Rattle.init_machine.specs.Sets.{Set}
use Rattle.property_trie.specs.Parts.{parts_of, compare_parts, node_size}
use Rattle.property_trie.specs.Tree.{Tree, by_order, alike, depth, grown, trie_of}
use Rattle.property_trie.specs.Tree.Tree.{leaf, node}
use Rattle.property_trie.specs.Places.{Takes}
use Rattle.property_trie.specs.TreeWords.{NodeHolds, link_at, missing_part}
use Rattle.property_trie.specs.TrieSteps.{IsShortText, sizes_of, tree_of, missing_parts}
use Rattle.property_trie.specs.Additions.{first_words, new_node_word, new_node, tree_with, free_place, IsNext}
use Rattle.property_trie.specs.Held.{HasShortParts, TrieStands, AdditionStands}
use Rattle.property_trie.proofs.Growth.{depth-grown}
use Rattle.property_trie.proofs.Names.{alike_self}
use Rattle.property_trie.proofs.Marks.{trie_is}
use Rattle.property_trie.proofs.Lies.{ordered-grown, rising-grown, wide-grown, drop_more}
use Rattle.property_trie.proofs.Apart.{apart-grown}
use Rattle.property_trie.proofs.Extending.{grown_more}
use Rattle.property_trie.proofs.Frames.{nodes_take, tree_else, links}
use Rattle.property_trie.proofs.Growing.{sizes_more}
use Rattle.property_trie.proofs.Additional.{length-first_words}

abbrev Parts : Type 0
Parts = List (List ℕ)

snoc_old : (xs : List ℕ) (w k : ℕ) → k < length xs → get_or (xs ++ w ∷ []) k 0 ≡ get_or xs k 0
snoc_old [] w k small = absurd (omega arith)
snoc_old (x ∷ xs) w zero small = refl
snoc_old (x ∷ xs) w (suc k) small = snoc_old xs w k (omega arith)

snoc_new : (xs : List ℕ) (w : ℕ) → get_or (xs ++ w ∷ []) (length xs) 0 ≡ w
snoc_new [] w = refl
snoc_new (x ∷ xs) w = snoc_new xs w

-- a mark lies behind the head
mark_high : (sets : List Set) (name : List ℕ) (linked : ℕ) → 16 ≤ free_place sets name linked
mark_high sets name linked = let high = (trie_is (sizes_of sets)).above in omega arith

-- the next fresh word
pub fresh_stored : (words : List ℕ) (sets : List Set) (name : List ℕ) (linked : ℕ) (fresh : List ℕ) (word : ℕ) → AdditionStands words sets name linked fresh
    → free_place sets name linked + length fresh < length words
    → AdditionStands (set words (free_place sets name linked + length fresh) word) sets name linked (fresh ++ word ∷ [])
fresh_stored words sets name linked fresh word h small =
    let free : ℕ = free_place sets name linked in
    let at : ℕ = free + length fresh in
    let tree : Tree = tree_with sets name linked in
    let high : 16 ≤ free = mark_high sets name linked in
    let long : length (set words at word) ≡ length words = length-set words at word in
    let longer : length (fresh ++ word ∷ []) ≡ length fresh + 1 = length-append fresh (word ∷ []) in
    let room = h.trie.room in record {
      trie = record {
        holds = record {
          top = get_or-set_other words at 1 word 0 (λ e. omega arith) ∙ h.trie.holds.top;
          nodes = tree_else words at word tree (λ is. let below = (h.trie.lies.within at (nodes_take tree at is)).1 in omega arith) h.trie.holds.nodes;
        };
        lies = h.trie.lies;
        room = omega arith;
        parts = h.trie.parts;
      };
      spelt = λ k inside. dite (dec_lt k (length fresh))
          (λ old. get_or-set_other words at (free + k) word 0 (λ e. omega arith) ∙ h.spelt k old ∙ sym (snoc_old fresh word k old))
          (λ new. let last : k ≡ length fresh = omega arith in
          ap (λ (j : ℕ). get_or (set words at word) (free + j) 0) last ∙ get_or-set_same words at word 0 small
          ∙ sym (ap (λ (j : ℕ). get_or (fresh ++ word ∷ []) j 0) last ∙ snoc_new fresh word));
      inside = omega arith;
    }

pub first_at : (word : ℕ → ℕ) (n k : ℕ) → k < n → get_or (first_words word n) k 0 ≡ word k
first_at word zero k small = absurd (omega arith)
first_at word (suc n) k small =
    let long = length-first_words word n in
    dite (dec_lt k n)
    (λ old. snoc_old (first_words word n) (word n) k (omega arith) ∙ first_at word n k old)
    (λ new. let last : k ≡ n = omega arith in
    ap (λ (j : ℕ). get_or (first_words word n ++ word n ∷ []) j 0) (last ∙ sym long) ∙ snoc_new (first_words word n) (word n) ∙ ap word (sym last))

-- the words of a new node spell it
node_spelt : (words : List ℕ) (place : ℕ) (part : List ℕ) → ((k : ℕ) → k < length (new_node part) → get_or words (place + k) 0 ≡ get_or (new_node part) k 0) → NodeHolds words place part 0 0 0 0
node_spelt words place part spelt =
    let long = length-first_words (new_node_word part) (node_size part) in
    let each : (k : ℕ) → k < node_size part → get_or words (place + k) 0 ≡ new_node_word part k =
    λ k small. spelt k (omega arith) ∙ first_at (new_node_word part) (node_size part) k small in
    let none : place + 0 ≡ place = omega arith in record {
      length_is = ap (λ (j : ℕ). get_or words j 0) (sym none) ∙ each 0 (omega arith);
      left_is = each 1 (omega arith);
      right_is = each 2 (omega arith);
      children_is = each 3 (omega arith);
      cell_is = each 4 (omega arith);
      part_is = λ k small. let e : place + 5 + k ≡ place + suc (suc (suc (suc (suc k)))) = omega arith in
          ap (λ (j : ℕ). get_or words j 0) e ∙ each (suc (suc (suc (suc (suc k))))) (omega arith);
    }

-- the first part that has no node
missing_first : (t : Tree) (ps : Parts) (p : List ℕ) (qs : Parts) → drop (depth t ps) ps ≡ p ∷ qs → missing_part t ps ≡ p
missing_first leaf [] p qs left = absurd (cc)
missing_first leaf (x ∷ xs) p qs left = cc
missing_first (node place part l r c cell) [] p qs left = absurd (cc)
missing_first (node place part l r c cell) (x ∷ xs) p qs left =
    elim (compare_parts x part) as (λ o. drop (by_order o (depth l (x ∷ xs)) (1 + depth c xs) (depth r (x ∷ xs))) (x ∷ xs) ≡ p ∷ qs
    → by_order o (missing_part l (x ∷ xs)) (missing_part c xs) (missing_part r (x ∷ xs)) ≡ p) [
      | Less ↦ λ f. missing_first l (x ∷ xs) p qs f
      | Equal ↦ λ f. missing_first c xs p qs (sym (drop_more (depth c xs) x xs) ∙ f)
      | Greater ↦ λ f. missing_first r (x ∷ xs) p qs f
    ] left

-- growth by one node takes that node's words
takes_one : (t : Tree) (ps : Parts) (place word : ℕ) → Takes (grown 1 t ps place) word → Takes t word ⊎ ((place ≤ word) × (word < place + node_size (missing_part t ps)))
takes_one leaf [] place word is = absurd is
takes_one leaf (p ∷ []) place word is = ⊎_elim (λ own. inr own) (λ a. ⊎_elim (λ in_cell. let z = in_cell.0 in absurd (omega arith)) (λ b. ⊎_elim (λ e. absurd e) (λ d. ⊎_elim (λ e. absurd e) (λ e. absurd e) d) b) a) is
takes_one leaf (p ∷ q ∷ qs) place word is = ⊎_elim (λ own. inr own) (λ a. ⊎_elim (λ in_cell. let z = in_cell.0 in absurd (omega arith)) (λ b. ⊎_elim (λ e. absurd e) (λ d. ⊎_elim (λ e. absurd e) (λ e. absurd e) d) b) a) is
takes_one (node at part l r c cell) [] place word is = inl is
takes_one (node at part l r c cell) (x ∷ xs) place word is =
    elim (compare_parts x part) as (λ o.
    Takes (by_order o (node at part (grown 1 l (x ∷ xs) place) r c cell) (node at part l r (grown 1 c xs place) cell) (node at part l (grown 1 r (x ∷ xs) place) c cell)) word
    → Takes (node at part l r c cell) word ⊎ ((place ≤ word) × (word < place + node_size (by_order o (missing_part l (x ∷ xs)) (missing_part c xs) (missing_part r (x ∷ xs)))))) [
      | Less ↦ λ i. ⊎_elim (λ own. inl (inl own)) (λ a. ⊎_elim (λ in_cell. inl (inr (inl in_cell))) (λ b. ⊎_elim
          (λ left. ⊎_elim (λ old. inl (inr (inr (inl old)))) (λ new. inr new) (takes_one l (x ∷ xs) place word left)) (λ d. inl (inr (inr (inr d)))) b) a) i
      | Equal ↦ λ i. ⊎_elim (λ own. inl (inl own)) (λ a. ⊎_elim (λ in_cell. inl (inr (inl in_cell))) (λ b. ⊎_elim
          (λ left. inl (inr (inr (inl left)))) (λ d. ⊎_elim (λ right. inl (inr (inr (inr (inl right)))))
          (λ below. ⊎_elim (λ old. inl (inr (inr (inr (inr old))))) (λ new. inr new) (takes_one c xs place word below)) d) b) a) i
      | Greater ↦ λ i. ⊎_elim (λ own. inl (inl own)) (λ a. ⊎_elim (λ in_cell. inl (inr (inl in_cell))) (λ b. ⊎_elim
          (λ left. inl (inr (inr (inl left)))) (λ d. ⊎_elim
          (λ right. ⊎_elim (λ old. inl (inr (inr (inr (inl old))))) (λ new. inr new) (takes_one r (x ∷ xs) place word right))
          (λ below. inl (inr (inr (inr (inr below))))) d) b) a) i
    ] is

short_grown : (t : Tree) (ps : Parts) (place : ℕ) → HasShortParts t → IsShortText (missing_part t ps) → HasShortParts (grown 1 t ps place)
short_grown leaf [] place h new = tt
short_grown leaf (p ∷ []) place h new = (new, tt, tt, tt)
short_grown leaf (p ∷ q ∷ qs) place h new = (new, tt, tt, tt)
short_grown (node at part l r c cell) [] place h new = h
short_grown (node at part l r c cell) (x ∷ xs) place h new =
    elim (compare_parts x part) as (λ o. IsShortText (by_order o (missing_part l (x ∷ xs)) (missing_part c xs) (missing_part r (x ∷ xs)))
    → HasShortParts (by_order o (node at part (grown 1 l (x ∷ xs) place) r c cell) (node at part l r (grown 1 c xs place) cell) (node at part l (grown 1 r (x ∷ xs) place) c cell))) [
      | Less ↦ λ n. (h.0, short_grown l (x ∷ xs) place h.1 n, h.2, h.3)
      | Equal ↦ λ n. (h.0, h.1, h.2, short_grown c xs place h.3 n)
      | Greater ↦ λ n. (h.0, h.1, short_grown r (x ∷ xs) place h.2 n, h.3)
    ] new

pub alike_whole : (ps : Parts) → alike ps ps ≡ length ps
alike_whole [] = refl
alike_whole (p ∷ ps) = alike_self p ps ∙ (let rest = alike_whole ps in omega arith)

pub drop_small : (n : ℕ) (ps : Parts) (p : List ℕ) (qs : Parts) → drop n ps ≡ p ∷ qs → n < length ps
drop_small zero [] p qs left = absurd (cc)
drop_small (suc n) [] p qs left = absurd (cc)
drop_small zero (x ∷ xs) p qs left = omega arith
drop_small (suc n) (x ∷ xs) p qs left = let rest = drop_small n xs p qs left in omega arith

-- the link to the next node, whose words stand
pub node_stored : (words : List ℕ) (sets : List Set) (name : List ℕ) (linked : ℕ) (part : List ℕ) → AdditionStands words sets name linked (new_node part)
    → IsNext sets name linked part → IsShortText part
    → AdditionStands (set words (link_at 1 (tree_with sets name linked) (parts_of name)) (free_place sets name linked)) sets name (suc linked) []
node_stored words sets name linked part h next short =
    let ps : Parts = parts_of name in
    let t0 : Tree = tree_of sets in
    let mark : ℕ = (trie_of (sizes_of sets)).mark in
    let t : Tree = tree_with sets name linked in
    let free : ℕ = free_place sets name linked in
    let link : ℕ = link_at 1 t ps in
    let high : 16 ≤ free = mark_high sets name linked in
    let left : drop linked (drop (depth t0 ps) ps) ≡ part ∷ next.0 = next.1 in
    let small : linked < length (drop (depth t0 ps) ps) = drop_small linked (drop (depth t0 ps) ps) part next.0 left in
    let long : length (drop (depth t0 ps) ps) ≡ length ps - depth t0 ps = length-drop (depth t0 ps) ps in
    let grew = depth-grown linked t0 ps mark ps in
    let all = alike_whole ps in
    let deep : depth t ps ≡ depth t0 ps + linked = omega arith in
    let first : missing_part t ps ≡ part = missing_first t ps part next.0 (ap (λ (n : ℕ). drop n ps) deep ∙ sym (drop-drop linked (depth t0 ps) ps) ∙ left) in
    let more : tree_with sets name (suc linked) ≡ grown 1 t ps free = grown_more linked t0 ps mark in
    let sizes : free_place sets name (suc linked) ≡ free + node_size part = let s = sizes_more linked (missing_parts t0 ps) part next.0 left in omega arith in
    let wide : length (new_node part) ≡ node_size part = length-first_words (new_node_word part) (node_size part) in
    let inside = h.inside in
    let room = h.trie.room in
    let below : (word : ℕ) → Takes t word → word < free = λ word is. (h.trie.lies.within word is).1 in
    let new : NodeHolds words free (missing_part t ps) 0 0 0 0 = subst (λ (q : List ℕ). NodeHolds words free q 0 0 0 0) (sym first) (node_spelt words free part h.spelt) in
    let spells = links t ps 1 words free (omega arith) record {
      apart = h.trie.lies.apart;
      outside = λ is. let low = (h.trie.lies.within 1 is).0 in absurd (omega arith);
      wide = omega arith;
      inside = λ word is. let b = below word is in omega arith;
      below = below;
      above = omega arith;
      link = h.trie.holds.top;
      holds = h.trie.holds.nodes;
    } new in
    let after : length (set words link free) ≡ length words = length-set words link free in record {
      trie = subst (λ (x : Tree × ℕ). TrieStands (set words link free) x.0 x.1) (λ i. (sym more i, sym sizes i)) record {
        holds = record { top = spells.0; nodes = spells.1 };
        lies = record {
          ordered = ordered-grown 1 t ps free h.trie.lies.ordered;
          rising = rising-grown 1 t ps free below h.trie.lies.rising;
          within = λ word is. ⊎_elim
              (λ old. let w = h.trie.lies.within word old in (w.0, let b = w.1 in omega arith))
              (λ (n : (free ≤ word) × (word < free + node_size (missing_part t ps))). let a = n.0 in let b = n.1 in let e = ap node_size first in (omega arith, omega arith))
              (takes_one t ps free word is);
          apart = apart-grown 1 t ps free below h.trie.lies.apart;
          wide = wide-grown 1 t ps free h.trie.lies.wide;
        };
        room = omega arith;
        parts = short_grown t ps free h.trie.parts (subst IsShortText (sym first) short);
      };
      spelt = λ k none. absurd (omega arith);
      inside = omega arith;
    }
