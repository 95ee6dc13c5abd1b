-- The link to a new node keeps the rule of the area.
use Rattle.std.proofs.Common.{◌≡◌, ℕ, suc, ◌-◌, ◌<◌, ◌≤◌, ◌⊎◌, List, [], length, set, sym, refl, subst, inl, inr, ⊎_elim, arith}
use Rattle.std.proofs.lemmas.List.{length-drop}
use Rattle.atomic_table.specs.Table.{Me, Allows, keeps, stepped}
use Rattle.init_machine.specs.Sets.{Set}
use Rattle.serial_value.specs.Cell.{sets_of}
use Rattle.property_trie.specs.Parts.{parts_of}
use Rattle.property_trie.specs.Tree.{Tree, depth, Extends}
use Rattle.property_trie.specs.Places.{InCell}
use Rattle.property_trie.specs.TreeWords.{link_at}
use Rattle.property_trie.specs.TrieSteps.{tree_of, missing_parts}
use Rattle.property_trie.specs.Additions.{IsAdding, IsNext, addition, adding, tree_with, free_place, mark_of, new_node}
use Rattle.property_trie.proofs.Extending.{grown_more, extends-grown}
use Rattle.property_trie.proofs.Growth.{depth-grown}
use Rattle.property_trie.proofs.Frames.{InNodes, link_in}
use Rattle.property_trie.proofs.Stored.{alike_whole, drop_small, node_stored}
use Rattle.property_area.specs.declared.view.AreaView.{AreaView}
use Rattle.property_area.specs.Area.{tree_now, cell_of, Moment, WordsHold, ViewHolds, AreaHolds, with_trie, Settled}
use Rattle.property_area.specs.impl_laws.Trees.{mark_now, addition_stands, node_lies}
use Rattle.property_area.specs.impl_laws.Parts.{part_short}
use Rattle.property_area.specs.impl_laws.Frame.{writes}
use Rattle.property_area.specs.impl_laws.CellStores.{now, own_lies}
use Rattle.property_area.specs.impl_laws.Fresh.{trie_after, adder, added_so_far, tree_before, grows, grown_view}

-- where a part is left, not all parts have nodes
next_short : (sets : List Set) (name : List ℕ) (linked : ℕ) (part : List ℕ) → IsNext sets name linked part → depth (tree_with sets name linked) (parts_of name) < length (parts_of name)
next_short sets name linked part next =
    let ps : List (List ℕ) = parts_of name in
    let small : linked < length (missing_parts (tree_of sets) ps) = drop_small linked (missing_parts (tree_of sets) ps) part next.0 next.1 in
    let long : length (missing_parts (tree_of sets) ps) ≡ length ps - depth (tree_of sets) ps = length-drop (depth (tree_of sets) ps) ps in
    let grew = depth-grown linked (tree_of sets) ps (mark_of sets) ps in
    let all = alike_whole ps in
    omega arith

module _ (words : List ℕ) (m : Moment) (h : WordsHold words m) (id : ℕ) (v : AreaView) (view : ViewHolds words m id v) (name : List ℕ) (linked : ℕ) (part : List ℕ)
    (adds : IsAdding v.cell v.trie name linked (new_node part)) (next : IsNext m.sets name linked part) where
  abbrev pub link : ℕ
  link = link_at 1 (tree_with m.sets name linked) (parts_of name)

  abbrev Where : Type 0
  Where = (link ≡ 1) ⊎ InNodes (tree_with m.sets name linked) link

  link_is : Where
  link_is = link_in 1 (tree_with m.sets name linked) (parts_of name) (next_short m.sets name linked part next)

  in_nodes : InNodes (tree_with m.sets name linked) link → InNodes (tree_now m.sets m.adding) link
  in_nodes is = subst (λ (t : Tree). InNodes t link) (sym (tree_before words m h id v view name linked (new_node part) adds)) is

  pub outside : (q : List ℕ) → InCell (cell_of m.sets q) link → ⊥
  outside q is = ⊎_elim
      (λ (one : link ≡ 1). let low = (own_lies words m h q link is).0 in omega arith)
      (λ there. (own_lies words m h q link is).2 (in_nodes there))
      link_is

  pub far : (link ≡ 1) ⊎ (16 ≤ link)
  far = ⊎_elim (λ one. inl one) (λ there. inr (node_lies words (tree_now m.sets m.adding) (mark_now m.sets m.adding) (now words m h) link (in_nodes there)).0) link_is

  pub more : Extends (tree_with m.sets name linked) (tree_with m.sets name (suc linked))
  more = subst (Extends (tree_with m.sets name linked)) (sym (grown_more linked (tree_of m.sets) (parts_of name) (mark_of m.sets)))
      (extends-grown 1 (tree_with m.sets name linked) (parts_of name) (free_place m.sets name linked))

pub area_node : (key slots id : ℕ) (m : Me (Unit {0}) AreaView) (name : List ℕ) (linked : ℕ) (part : List ℕ)
    → Settled m.0 → IsAdding m.0.cell m.0.trie name linked (new_node part) → IsNext (sets_of m.0.cell) name linked part
    → Allows AreaHolds slots id m (link_at 1 (tree_with (sets_of m.0.cell) name linked) (parts_of name)) (λ _. free_place (sets_of m.0.cell) name linked)
    (λ _ after. after ≡ (with_trie m.0 (adding m.0.trie name (suc linked) []), m.1))
area_node key slots id m name linked part settled adds next s h size here fits =
    let words = s.words in
    let mo = h.moment in
    let v = m.0 in
    let view = h.each id v here in
    let known = adder words mo h.words id v view name linked (new_node part) adds in
    let next' : IsNext mo.sets name linked part = subst (λ (x : List Set). IsNext x name linked part) known.sets_are next in
    let free : ℕ = free_place mo.sets name linked in
    let i : ℕ = link_at 1 (tree_with mo.sets name linked) (parts_of name) in
    let short = part_short name adds.legal linked (depth (tree_of mo.sets) (parts_of name)) part next'.0 next'.1 in
    let trie = addition_stands (set words i free) mo.sets name (suc linked) [] (node_stored words mo.sets name linked part (added_so_far words mo h.words id v view name linked (new_node part) adds) next' short) in
    let more' = more words mo h.words id v view name linked part adds next' in
    let a = trie_after words mo h.words i free (addition name (suc linked) []) (outside words mo h.words id v view name linked part adds next') (far words mo h.words id v view name linked part adds next') trie
    (grows words mo h.words id v view name linked (new_node part) adds i free (suc linked) [] more') in
    let w = with_trie v (adding v.trie name (suc linked) []) in (
      w,
      keeps,
      tt,
      subst (λ (x : List Set). AreaHolds (stepped s (link_at 1 (tree_with x name linked) (parts_of name)) (free_place x name linked) id m.1 w keeps)) (sym known.sets_are)
          (writes s h i free id m.1 (record mo { adding = addition name (suc linked) [] }) w a known.writes
          (grown_view words mo h.words id v view name linked (new_node part) adds i free (suc linked) [] more' a)),
      refl,
    )
