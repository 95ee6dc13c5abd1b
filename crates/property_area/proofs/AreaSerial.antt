-- The store of the area serial keeps the rule of the area.
use Rattle.std.proofs.Common.{◌≡◌, ℕ, ◌<◌, List, length, set, Option, sym, refl, ap, ◌∙◌, subst, inl, arith, length-set, get_or-set_other, get_or-set_same}
use Rattle.atomic_table.specs.Table.{Me, Allows, keeps, stepped}
use Rattle.init_machine.specs.Sets.{Set}
use Rattle.serial_value.specs.declared.view.Making.{Making}
use Rattle.serial_value.specs.declared.view.CellView.{CellView}
use Rattle.serial_value.specs.declared.view.CellView.TheVariants.{Writer}
use Rattle.serial_value.specs.Cell.{sets_of}
use Rattle.serial_value.specs.World.Moved.{stays}
use Rattle.property_trie.specs.Parts.{parts_of}
use Rattle.property_trie.specs.Tree.{find}
use Rattle.property_trie.specs.Places.{InCell}
use Rattle.property_trie.specs.TrieSteps.{tree_of}
use Rattle.property_trie.proofs.Extending.{extends_self}
use Rattle.property_area.specs.declared.view.AreaView.{AreaView}
use Rattle.property_area.specs.Area.{tree_now, cell_of, Moment, world_of, WordsHold, PartHolds, ViewHolds, AreaHolds}
use Rattle.property_area.specs.Seats.{settled_view}
use Rattle.property_area.specs.impl_laws.Trees.{mark_now, mark_high, adding_else, node_lies, word_else}
use Rattle.property_area.specs.impl_laws.Frame.{Mine, mine, clients_later, After, writes, goes_on}
use Rattle.property_area.specs.impl_laws.CellStores.{now, stands_beside, serial_apart}

module _ (words : List ℕ) (m : Moment) (h : WordsHold words m) (id : ℕ) (v : AreaView) (view : ViewHolds words m id v) (making : Option Making)
    (is : v.cell ≡ Writer (sets_of v.cell) making) where
  abbrev pub n : ℕ
  n = length (sets_of v.cell)

  abbrev pub words' : List ℕ
  words' = set words 0 n

  abbrev pub m' : Moment
  m' = record m { head = n }

  pub known : Mine words m id v (sets_of v.cell) making
  known = mine words m id v (sets_of v.cell) making view is

  outside : (q : List ℕ) → InCell (cell_of m.sets q) 0 → ⊥
  outside q t = let a = t.0 in let b = t.1 in omega arith

  room : 0 < length words
  room = let r = (now words m h).room in let high = mark_high m.sets m.adding in omega arith

  holds : WordsHold words' m'
  holds = record {
    few = h.few;
    legal = h.legal;
    fit = h.fit;
    head = get_or-set_same words 0 n 0 room;
    late = inl (ap (λ (s : List Set). length s) known.sets_are);
    empty = (get_or-set_other words 0 2 n 0 (λ e. omega arith) ∙ h.empty.0, get_or-set_other words 0 3 n 0 (λ e. omega arith) ∙ h.empty.1);
    trie = adding_else words m.sets m.adding 0 n h.trie (λ e. omega arith)
        (λ t. let low = (node_lies words (tree_now m.sets m.adding) (mark_now m.sets m.adding) (now words m h) 0 t).0 in omega arith)
        (let high = mark_high m.sets m.adding in omega arith);
    made = h.made;
    cells = λ q some. stands_beside words 0 n m.sets m.making q h.made some (outside q) (λ k small e. omega arith) (h.cells q some);
  }

  pub after : After words m words' m'
  after = record {
    wide = length-set words 0 n;
    holds = holds;
    later = goes_on words words' m m.making m.adding n (λ q e. e)
        (λ q. stays (word_else words 0 n (find (tree_of m.sets) (parts_of q)) (serial_apart words m h q 0 (outside q))) (λ k value above below e. omega arith));
    extends = extends_self (tree_now m.sets m.adding);
    writer = refl;
    seats = refl;
    asked = λ seat v' a. a;
  }

  pub own_view : ViewHolds words' m' id (settled_view v)
  own_view = record {
    width = view.width ∙ sym (length-set words 0 n);
    trie = view.trie;
    part = subst (λ (c : CellView). PartHolds (world_of words' m') m' id c (settled_view v)) (sym is) (
      known.writes,
      known.sets_are,
      known.making_is,
      known.adding_is,
      refl,
      clients_later (world_of words m) (world_of words' m') after.later v.clients known.clients,
      known.requests,
    );
  }

pub area_serial : (slots id : ℕ) (m : Me (Unit {0}) AreaView) (making : Option Making) (number : ℕ) → m.0.cell ≡ Writer (sets_of m.0.cell) making → number ≡ length (sets_of m.0.cell)
    → Allows AreaHolds slots id m 0 (λ _. number) (λ _ after. after ≡ (settled_view m.0, m.1))
area_serial slots id m making number is same s h size here fits =
    let v = m.0 in
    let mo = h.moment in
    let view = h.each id v here in (
      settled_view v,
      keeps,
      tt,
      subst (λ (k : ℕ). AreaHolds (stepped s 0 k id m.1 (settled_view v) keeps)) (sym same)
          (writes s h 0 (length (sets_of v.cell)) id m.1 (m' s.words mo h.words id v view making is) (settled_view v) (after s.words mo h.words id v view making is)
          (known s.words mo h.words id v view making is).writes (own_view s.words mo h.words id v view making is)),
      refl,
    )
