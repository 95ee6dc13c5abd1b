-- The stores of an addition: what they share, and that a fresh word keeps the rule of the area.
use Rattle.std.proofs.Common.{◌≡◌, ◌≢◌, ℕ, ◌+◌, ◌<◌, ◌≤◌, ◌⊎◌, List, [], ◌∷◌, ◌++◌, length, get_or, set, Option, None, sym, refl, ap, ◌∙◌, subst, inr, ⊎_elim, arith, length-set, get_or-set_other}
use Rattle.atomic_table.specs.Table.{Me, Allows, keeps, stepped}
use Rattle.init_machine.specs.Sets.{Set}
use Rattle.serial_value.specs.declared.view.CellView.{CellView}
use Rattle.serial_value.specs.Cell.{sets_of}
use Rattle.serial_value.specs.World.{Later}
use Rattle.serial_value.specs.World.Moved.{stays}
use Rattle.property_trie.specs.Parts.{parts_of}
use Rattle.property_trie.specs.Tree.{Tree, find, Extends}
use Rattle.property_trie.specs.Places.{InCell}
use Rattle.property_trie.specs.TrieSteps.{tree_of}
use Rattle.property_trie.specs.Additions.{IsAdding, addition, adding, tree_with, free_place}
use Rattle.property_trie.specs.Held.{AdditionStands}
use Rattle.property_trie.specs.declared.view.Adding.{Adding}
use Rattle.property_trie.proofs.Extending.{extends_self}
use Rattle.property_trie.proofs.Loads.{seat_extends}
use Rattle.property_trie.proofs.Stored.{fresh_stored}
use Rattle.property_area.specs.declared.view.AreaView.{AreaView}
use Rattle.property_area.specs.Area.{tree_now, cell_of, AddingStands, Moment, world_of, WordsHold, PartHolds, ViewHolds, AreaHolds, with_trie, Settled}
use Rattle.property_area.specs.impl_laws.Trees.{mark_now, mark_high, stands_addition, addition_stands, tree_addition, mark_addition, word_else}
use Rattle.property_area.specs.impl_laws.Frame.{Mine, mine, clients_later, After, writes, goes_on}
use Rattle.property_area.specs.impl_laws.CellStores.{stands_beside, own_lies, serial_apart}

-- a store beside all cells and the head, but for word 1
module _ (words : List ℕ) (m : Moment) (h : WordsHold words m) (i n : ℕ) (adding' : Option Adding)
    (outside : (q : List ℕ) → InCell (cell_of m.sets q) i → ⊥) (far : (i ≡ 1) ⊎ (16 ≤ i)) where
  abbrev m' : Moment
  m' = record m { adding = adding' }

  head_else : (j : ℕ) → j < 16 → j ≢ 1 → get_or (set words i n) j 0 ≡ get_or words j 0
  head_else j small other = get_or-set_other words i j n 0 (λ e. ⊎_elim (λ (one : i ≡ 1). other (e ∙ one)) (λ (high : 16 ≤ i). omega arith) far)

  backup_else : (k : ℕ) → k < 12 → 4 + k ≢ i
  backup_else k small e = ⊎_elim (λ (one : i ≡ 1). omega arith) (λ (high : 16 ≤ i). omega arith) far

  pub trie_stored : AddingStands (set words i n) m.sets adding' → WordsHold (set words i n) m'
  trie_stored trie = record {
    few = h.few;
    legal = h.legal;
    fit = h.fit;
    head = head_else 0 (omega arith) (λ e. omega arith) ∙ h.head;
    late = h.late;
    empty = (head_else 2 (omega arith) (λ e. omega arith) ∙ h.empty.0, head_else 3 (omega arith) (λ e. omega arith) ∙ h.empty.1);
    trie = trie;
    made = h.made;
    cells = λ q some. stands_beside words i n m.sets m.making q h.made some (outside q) backup_else (h.cells q some);
  }

  pub trie_later : Later (world_of words m) (world_of (set words i n) m')
  trie_later = goes_on words (set words i n) m m.making adding' m.head (λ q e. e)
      (λ q. stays (word_else words i n (find (tree_of m.sets) (parts_of q)) (serial_apart words m h q i (outside q))) (λ k value above below e. omega arith))

  pub trie_after : AddingStands (set words i n) m.sets adding' → Extends (tree_now m.sets m.adding) (tree_now m.sets adding') → After words m (set words i n) m'
  trie_after trie more = record { wide = length-set words i n; holds = trie_stored trie; later = trie_later; extends = more; writer = refl; seats = refl; asked = λ seat v' a. a }

-- what is known where the writer adds a name
module _ (words : List ℕ) (m : Moment) (h : WordsHold words m) (id : ℕ) (v : AreaView) (view : ViewHolds words m id v) (name : List ℕ) (linked : ℕ) (fresh : List ℕ)
    (adds : IsAdding v.cell v.trie name linked fresh) where
  pub adder : Mine words m id v (sets_of v.cell) None
  adder = mine words m id v (sets_of v.cell) None view adds.writes

  pub adding_now : m.adding ≡ addition name linked fresh
  adding_now = sym adder.adding_is ∙ adds.under_way

  pub added_so_far : AdditionStands words m.sets name linked fresh
  added_so_far = stands_addition words m.sets name linked fresh (subst (AddingStands words m.sets) adding_now h.trie)

  pub tree_before : tree_now m.sets m.adding ≡ tree_with m.sets name linked
  tree_before = ap (tree_now m.sets) adding_now ∙ tree_addition m.sets name linked fresh

  pub mark_before : mark_now m.sets m.adding ≡ free_place m.sets name linked
  mark_before = ap (mark_now m.sets) adding_now ∙ mark_addition m.sets name linked fresh

  -- the addition goes on
  module _ (i n linked' : ℕ) (fresh' : List ℕ) (more : Extends (tree_with m.sets name linked) (tree_with m.sets name linked')) where
    pub grows : Extends (tree_now m.sets m.adding) (tree_now m.sets (addition name linked' fresh'))
    grows = subst (λ (x : Tree × Tree). Extends x.0 x.1) (λ j. (sym tree_before j, sym (tree_addition m.sets name linked' fresh') j)) more

    pub grown_view : After words m (set words i n) (record m { adding = addition name linked' fresh' })
        → ViewHolds (set words i n) (record m { adding = addition name linked' fresh' }) id (with_trie v (adding v.trie name linked' fresh'))
    grown_view a =
        let w' = world_of (set words i n) m in
        let stands = seat_extends (tree_now m.sets m.adding) (tree_now m.sets (addition name linked' fresh')) v.trie grows view.trie in record {
          width = view.width ∙ sym (length-set words i n);
          trie = record { known = stands.known; trail = stands.trail };
          part = subst (λ (c : CellView). PartHolds w' (record m { adding = addition name linked' fresh' }) id c (with_trie v (adding v.trie name linked' fresh'))) (sym adds.writes) (
            adder.writes,
            adder.sets_are,
            adder.making_is,
            refl,
            adder.head_is,
            clients_later (world_of words m) w' a.later v.clients adder.clients,
            adder.requests,
          );
        }

pub area_fresh : (key slots id : ℕ) (m : Me (Unit {0}) AreaView) (name : List ℕ) (linked : ℕ) (fresh : List ℕ) (word : ℕ)
    → Settled m.0 → IsAdding m.0.cell m.0.trie name linked fresh → free_place (sets_of m.0.cell) name linked + length fresh < m.0.words
    → Allows AreaHolds slots id m (free_place (sets_of m.0.cell) name linked + length fresh) (λ _. word)
    (λ _ after. after ≡ (with_trie m.0 (adding m.0.trie name linked (fresh ++ word ∷ [])), m.1))
area_fresh key slots id m name linked fresh word settled adds inside s h size here fits =
    let words = s.words in
    let mo = h.moment in
    let v = m.0 in
    let view = h.each id v here in
    let known = adder words mo h.words id v view name linked fresh adds in
    let free : ℕ = free_place mo.sets name linked in
    let i : ℕ = free + length fresh in
    let mark : mark_now mo.sets mo.adding ≡ free = mark_before words mo h.words id v view name linked fresh adds in
    let high = mark_high mo.sets mo.adding in
    let wide = view.width in
    let same : free_place (sets_of v.cell) name linked ≡ free = ap (λ (x : List Set). free_place x name linked) known.sets_are in
    let fresh' = fresh ++ word ∷ [] in
    let outside : (q : List ℕ) → InCell (cell_of mo.sets q) i → ⊥ = λ q is. let below = (own_lies words mo h.words q i is).1 in omega arith in
    let trie = addition_stands (set words i word) mo.sets name linked fresh' (fresh_stored words mo.sets name linked fresh word (added_so_far words mo h.words id v view name linked fresh adds) (omega arith)) in
    let more = extends_self (tree_with mo.sets name linked) in
    let a = trie_after words mo h.words i word (addition name linked fresh') outside (inr (omega arith)) trie (grows words mo h.words id v view name linked fresh adds i word linked fresh' more) in
    let w = with_trie v (adding v.trie name linked fresh') in (
      w,
      keeps,
      tt,
      subst (λ (x : ℕ). AreaHolds (stepped s (x + length fresh) word id m.1 w keeps)) (sym same)
          (writes s h i word id m.1 (record mo { adding = addition name linked fresh' }) w a known.writes (grown_view words mo h.words id v view name linked fresh adds i word linked fresh' more a)),
      refl,
    )
