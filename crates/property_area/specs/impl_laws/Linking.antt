-- The link to a new cell, with which the set is accepted, keeps the rule of the area.
use Rattle.std.proofs.Common.{◌≡◌, ◌≢◌, ℕ, suc, ◌+◌, ◌<◌, ◌≤◌, ◌^◌, List, [], ◌∷◌, ◌++◌, length, get_or, set, Option, None, sym, refl, ap, ◌∙◌, subst, inr, ⊎_elim, arith, length-append, length-set, get_or-set_other}
use Rattle.atomic_table.specs.Table.{Me, Allows, keeps, stepped}
use Rattle.init_base.specs.Value.{max_value_len}
use Rattle.init_machine.specs.Words.{cell_words}
use Rattle.init_machine.specs.Serial.{top_byte, clean_serial, top_in, rank}
use Rattle.init_machine.specs.Sets.{Set}
use Rattle.serial_value.specs.declared.view.Making.{Making}
use Rattle.serial_value.specs.Words.{body_size, IsValue}
use Rattle.serial_value.specs.Cell.{sets_of}
use Rattle.serial_value.specs.World.{Later}
use Rattle.serial_value.specs.World.Moved.{accepted as accepts_set}
use Rattle.serial_value.specs.One.{CellHolds, done_of, new_value}
use Rattle.serial_value.specs.impl_laws.Serials.{rank-clean}
use Rattle.serial_value.specs.impl_laws.Places.{at_below}
use Rattle.serial_value.specs.impl_laws.Bodies.{cell_words_body}
use Rattle.property_trie.specs.Parts.{parts_of}
use Rattle.property_trie.specs.Tree.{Tree, Cell, cell_in, find, depth, with_cell as tree_with_cell, Extends}
use Rattle.property_trie.specs.Places.{InCell}
use Rattle.property_trie.specs.Walk.{EndsAt}
use Rattle.property_trie.specs.TrieSteps.{tree_of}
use Rattle.property_trie.specs.Additions.{IsAdding, tree_with, free_place, mark_of, new_cell, new_cell_word, with_added}
use Rattle.property_trie.specs.Held.{AdditionStands}
use Rattle.property_trie.proofs.Names.{first_part, same_name}
use Rattle.property_trie.proofs.Growth.{cell-grown, find-grown, cell-with_cell_other, cell-with_cell_same}
use Rattle.property_trie.proofs.Extending.{extends-with_cell}
use Rattle.property_trie.proofs.Walks.{ends_deep}
use Rattle.property_trie.proofs.Cells.{ends_in}
use Rattle.property_trie.proofs.Frames.{InNodes}
use Rattle.property_trie.proofs.Loads.{seat_extends}
use Rattle.property_trie.proofs.Placed.{tree_is, in_tree, cell_stored, new_words}
use Rattle.property_area.specs.declared.view.AreaView.{AreaView}
use Rattle.property_area.specs.Area.{tree_now, cell_of, made_on, word_at, serial_in, CellStands, MayMake, Moment, world_of, WordsHold, ViewHolds, AreaHolds, with_cell, with_trie, Settled}
use Rattle.property_area.specs.impl_laws.Making.{same_or_other}
use Rattle.property_area.specs.impl_laws.Trees.{word_is, word_else, none_word}
use Rattle.property_area.specs.impl_laws.Sets.{others_none, last_longer, no_set}
use Rattle.property_area.specs.impl_laws.Fits.{fit_more}
use Rattle.property_area.specs.impl_laws.Frame.{Mine, clients_later, After, writes}
use Rattle.property_area.specs.impl_laws.CellStores.{own_lies, stands_beside, serial_apart}
use Rattle.property_area.specs.impl_laws.Accepting.{new_last, new_later, one_more, new_legal}
use Rattle.property_area.specs.impl_laws.Walks.{known_more}
use Rattle.property_area.specs.impl_laws.Fresh.{adder, added_so_far, tree_before}

module _ (words : List ℕ) (m : Moment) (h : WordsHold words m) (id : ℕ) (v : AreaView) (view : ViewHolds words m id v) (name value : List ℕ) (linked link : ℕ)
    (adds : IsAdding v.cell v.trie name linked (new_cell (length m.sets + 1) value)) (settled : Settled v) (legal : IsValue value) (within : length value ≤ max_value_len name) (few : length m.sets + 1 < 2 ^ 55)
    (ends : EndsAt (tree_with m.sets name linked) (parts_of name) link) where
  abbrev fresh : List ℕ
  fresh = new_cell (length m.sets + 1) value

  abbrev ps : List (List ℕ)
  ps = parts_of name

  abbrev tree : Tree
  tree = tree_with m.sets name linked

  abbrev pub free : ℕ
  free = free_place m.sets name linked

  abbrev pub more : List Set
  more = m.sets ++ (name, value) ∷ []

  abbrev pub words' : List ℕ
  words' = set words link free

  abbrev pub m' : Moment
  m' = record m { sets = more; adding = None }

  pub known : Mine words m id v (sets_of v.cell) None
  known = adder words m h id v view name linked fresh adds

  so_far : AdditionStands words m.sets name linked fresh
  so_far = added_so_far words m h id v view name linked fresh adds

  absent : find (tree_of m.sets) ps ≡ 0
  absent = subst (λ (s : List Set). find (tree_of s) ps ≡ 0) known.sets_are adds.absent

  abbrev new_at : Cell
  new_at = record { place = free; words = cell_words (length value) }

  later_tree : tree_of more ≡ tree_with_cell tree ps new_at
  later_tree = tree_is words m.sets name value linked link so_far absent ends

  -- the tree that the link stands in has no cell of the name either
  grown_absent : find tree ps ≡ 0
  grown_absent = find-grown linked (tree_of m.sets) ps (mark_of m.sets) ps ∙ absent

  cell_other : (q : List ℕ) → q ≢ name → cell_of more q ≡ cell_of m.sets q
  cell_other q other =
      ap (λ (t : Tree). cell_in t (parts_of q)) later_tree
      ∙ cell-with_cell_other tree ps new_at (parts_of q) (λ same. other (same_name q name same))
      ∙ cell-grown linked (tree_of m.sets) ps (mark_of m.sets) (parts_of q)

  found_other : (q : List ℕ) → q ≢ name → find (tree_of more) (parts_of q) ≡ find (tree_of m.sets) (parts_of q)
  found_other q other = ap (λ (c : Cell). c.place) (cell_other q other)

  cell_new : cell_of more name ≡ new_at
  cell_new =
      let first = first_part name in
      let deep : depth tree ps ≡ length ps = ends_deep tree ps link ends in
      ap (λ (t : Tree). cell_in t ps) later_tree
      ∙ subst (λ (qs : List (List ℕ)). depth tree qs ≡ length qs → cell_in (tree_with_cell tree qs new_at) qs ≡ new_at) (sym first.2) (cell-with_cell_same tree first.0 first.1 new_at) deep

  found_new : find (tree_of more) ps ≡ free
  found_new = ap (λ (c : Cell). c.place) cell_new

  high : 16 ≤ free
  high = let low = (in_tree words m.sets name value linked link so_far absent ends).0 in let below = (in_tree words m.sets name value linked link so_far absent ends).1 in omega arith

  link_low : 16 ≤ link
  link_low = (in_tree words m.sets name value linked link so_far absent ends).0

  -- the link stands in no cell
  outside : (q : List ℕ) → InCell (cell_of m.sets q) link → ⊥
  outside q is = (own_lies words m h q link is).2 (subst (λ (t : Tree). InNodes t link) (sym (tree_before words m h id v view name linked fresh adds)) (ends_in tree ps link ends))

  head_else : (j : ℕ) → j < 16 → get_or words' j 0 ≡ get_or words j 0
  head_else j small = get_or-set_other words link j free 0 (λ e. let l = link_low in omega arith)

  spelt : (k : ℕ) → k < 1 + body_size value → get_or words' (free + k) 0 ≡ new_cell_word (length m.sets + 1) value k
  spelt k small = let size = cell_words_body value in new_words words m.sets name value linked link so_far absent ends k (omega arith)

  first_word : get_or words' free 0 ≡ clean_serial (top_byte value) (length m.sets + 1)
  first_word = let e : free ≡ free + 0 = omega arith in ap (λ (j : ℕ). get_or words' j 0) e ∙ spelt 0 (omega arith)

  own : CellStands words' more m.making name
  own = record {
    number = length m.sets + 1;
    value = value;
    last = new_last m.sets name value;
    sized = ap (λ (c : Cell). c.words) cell_new;
    cell = subst (λ (x : ℕ × Option Making). CellHolds words' x.0 (length m.sets + 1) value (new_value (made_on name x.1)) (done_of (made_on name x.1))) (λ i. (sym found_new i, known.making_is i)) record {
      clean = λ d. first_word;
      dirty = λ d. absurd (omega arith);
      backup = λ k short d. absurd (omega arith);
      stored = λ k short d. absurd (omega arith);
      kept = λ k short d. let e : free + 1 + k ≡ free + suc k = omega arith in ap (λ (j : ℕ). get_or words' j 0) e ∙ spelt (suc k) (omega arith);
    };
  }

  other_cell : (q : List ℕ) → q ≢ name → find (tree_of m.sets) (parts_of q) ≢ 0 → CellStands words' more m.making q
  other_cell q other some_q =
      let old = stands_beside words link free m.sets m.making q h.made some_q (outside q) (λ k small e. let l = link_low in omega arith) (h.cells q some_q) in record {
        number = old.number;
        value = old.value;
        sized = ap (λ (c : Cell). c.words) (cell_other q other) ∙ old.sized;
        last = last_longer m.sets ((name, value) ∷ []) q old.number old.value old.last (others_none m.sets name value q other);
        cell = subst (λ (p : ℕ). CellHolds words' p old.number old.value (new_value (made_on q m.making)) (done_of (made_on q m.making))) (sym (found_other q other)) old.cell;
      }

  count : length more ≡ length m.sets + 1
  count = length-append m.sets ((name, value) ∷ [])

  head_now : m.head ≡ length m.sets
  head_now = sym known.head_is ∙ settled ∙ ap (λ (s : List Set). length s) known.sets_are

  holds : WordsHold words' m'
  holds = record {
    few = let n = count in omega arith;
    legal = new_legal m.sets name value h.legal legal;
    fit = fit_more m.sets h.fit name value within
        (λ i u on. absurd (no_set m.sets name (length m.sets) absent i u (omega arith) (at_below m.sets i (name, u) on) on));
    head = head_else 0 (omega arith) ∙ h.head;
    late = inr (let n = count in let e = head_now in omega arith);
    empty = (head_else 2 (omega arith) ∙ h.empty.0, head_else 3 (omega arith) ∙ h.empty.1);
    trie = cell_stored words m.sets name value linked link so_far absent ends;
    made = subst (λ (o : Option Making). MayMake more o) known.making_is tt;
    cells = λ q some_q. ⊎_elim
        (λ (is_name : q ≡ name). subst (λ (x : List ℕ). CellStands words' more m.making x) (sym is_name) own)
        (λ (other : q ≢ name). other_cell q other (λ e. some_q (found_other q other ∙ e)))
        (same_or_other q name);
  }

  ranks : rank (serial_in words m.sets name) < rank (serial_in words' more name)
  ranks =
      let old = ap rank (none_word words (find (tree_of m.sets) ps) absent) in
      let f = high in
      let is : serial_in words' more name ≡ clean_serial (top_byte value) (length m.sets + 1) = ap (word_at words') found_new ∙ word_is words' free (λ e. omega arith) ∙ first_word in
      let new = ap rank is ∙ rank-clean (top_byte value) (length m.sets + 1) few in
      omega arith

  -- the name has no serial yet
  none_long : top_in (serial_in words m.sets name) ≢ 255
  none_long top = let none : top_in (serial_in words m.sets name) ≡ 0 = ap top_in (none_word words (find (tree_of m.sets) ps) absent) in omega arith

  later : Later (world_of words m) (world_of words' m')
  later =
      one_more (world_of words m) (world_of words' m') name value refl (accepts_set ranks (new_later m.sets name value (length m.sets) (omega arith)) none_long)
      (λ q other. ap (word_at words') (found_other q other) ∙ word_else words link free (find (tree_of m.sets) (parts_of q)) (serial_apart words m h q link (outside q)))
      (λ q low within e. inr e)

  extends : Extends (tree_now m.sets m.adding) (tree_of more)
  extends = subst (λ (x : Tree × Tree). Extends x.0 x.1) (λ i. (sym (tree_before words m h id v view name linked fresh adds) i, sym later_tree i)) (extends-with_cell tree ps new_at grown_absent)

  pub after : After words m words' m'
  after = record { wide = length-set words link free; holds = holds; later = later; extends = extends; writer = refl; seats = refl; asked = λ seat v' a. a }

  abbrev pub added_view : AreaView
  added_view = with_added with_cell with_trie v.cell v.trie v name value free

  pub own_view : ViewHolds words' m' id added_view
  own_view =
      let stands = seat_extends (tree_now m.sets m.adding) (tree_of more) v.trie extends view.trie in record {
        width = view.width ∙ sym (length-set words link free);
        trie = record {
          known = known_more (tree_of more) v.trie.known name free (λ e. let f = high in omega arith) found_new stands.known;
          trail = stands.trail;
        };
        part = (
          known.writes,
          ap (λ (s : List Set). s ++ (name, value) ∷ []) known.sets_are,
          known.making_is,
          refl,
          known.head_is,
          clients_later (world_of words m) (world_of words' m') later v.clients known.clients,
          known.requests,
        );
      }

pub area_linked : (key slots id : ℕ) (m : Me (Unit {0}) AreaView) (name value : List ℕ) (linked link : ℕ)
    → Settled m.0 → IsAdding m.0.cell m.0.trie name linked (new_cell (length (sets_of m.0.cell) + 1) value) → IsValue value → length value ≤ max_value_len name
    → length (sets_of m.0.cell) + 1 < 2 ^ 55
    → EndsAt (tree_with (sets_of m.0.cell) name linked) (parts_of name) link
    → Allows AreaHolds slots id m link (λ _. free_place (sets_of m.0.cell) name linked)
    (λ _ after. after ≡ (with_added with_cell with_trie m.0.cell m.0.trie m.0 name value (free_place (sets_of m.0.cell) name linked), m.1))
area_linked key slots id m name value linked link settled adds legal within few ends s h size here fits =
    let words = s.words in
    let mo = h.moment in
    let v = m.0 in
    let view = h.each id v here in
    let same : sets_of v.cell ≡ mo.sets = (adder words mo h.words id v view name linked (new_cell (length (sets_of v.cell) + 1) value) adds).sets_are in
    let adds' = subst (λ (x : List Set). IsAdding v.cell v.trie name linked (new_cell (length x + 1) value)) same adds in
    let few' = subst (λ (x : List Set). length x + 1 < 2 ^ 55) same few in
    let ends' = subst (λ (x : List Set). EndsAt (tree_with x name linked) (parts_of name) link) same ends in
    let place : ℕ = free_place mo.sets name linked in
    let w = with_added with_cell with_trie v.cell v.trie v name value (free_place (sets_of v.cell) name linked) in (
      w,
      keeps,
      tt,
      subst (λ (x : List Set). AreaHolds (stepped s link (free_place x name linked) id m.1 (with_added with_cell with_trie v.cell v.trie v name value (free_place x name linked)) keeps)) (sym same)
          (writes s h link place id m.1 (m' words mo h.words id v view name value linked link adds' settled legal within few' ends')
          (added_view words mo h.words id v view name value linked link adds' settled legal within few' ends')
          (after words mo h.words id v view name value linked link adds' settled legal within few' ends')
          (known words mo h.words id v view name value linked link adds' settled legal within few' ends').writes
          (own_view words mo h.words id v view name value linked link adds' settled legal within few' ends')),
      refl,
    )
