-- The clean serial, which accepts the set, keeps the rule of the area.
use Rattle.std.proofs.Common.{◌≡◌, ◌≢◌, ℕ, ◌+◌, ◌<◌, ◌≤◌, ◌⊎◌, ◌^◌, List, [], ◌∷◌, ◌++◌, length, set, Some, None, sym, refl, ap, ◌∙◌, subst, inl, inr, ⊎_elim, arith, length-append, length-set, get_or-set_same}
use mathlib.Core.Option.{some}
use lib.ListN.{get_elem?}
use Rattle.atomic_table.specs.Table.{Me, Allows, keeps, stepped}
use Rattle.atomic_table.proofs.Lists.{at_last}
use Rattle.init_machine.specs.Serial.{top_byte, clean_serial, rank}
use Rattle.init_machine.specs.Sets.{Set, NoneBetween, LaterSet, LastSet}
use Rattle.serial_value.specs.Words.{IsValue, IsShortValue}
use Rattle.serial_value.specs.Cell.{sets_of, HasShortCell, name_of, update, accepted, IsUpdating}
use Rattle.serial_value.specs.World.{World, Moved, Later}
use Rattle.serial_value.specs.World.Moved.{stays, accepted as accepts_set}
use Rattle.serial_value.specs.One.{CellHolds}
use Rattle.serial_value.specs.impl_laws.Serials.{rank-clean, rank-dirty}
use Rattle.serial_value.specs.impl_laws.Places.{at_end}
use Rattle.serial_value.specs.impl_laws.Sets.{numbered_within}
use Rattle.serial_value.specs.impl_laws.CellWords.{cell_clean}
use Rattle.serial_value.specs.impl_laws.Bodies.{short_size, cell_words_body, least_len}
use Rattle.serial_value.specs.impl_laws.OneFrame.{new-update}
use Rattle.property_trie.specs.Parts.{parts_of}
use Rattle.property_trie.specs.Tree.{Cell, cell_in, Trie, find, trie_of, Extends}
use Rattle.property_trie.specs.Places.{InCell}
use Rattle.property_trie.specs.TrieSteps.{sizes_of, tree_of}
use Rattle.property_trie.proofs.Extending.{extends_self}
use Rattle.property_trie.proofs.Loads.{seat_extends}
use Rattle.property_area.specs.declared.view.AreaView.{AreaView}
use Rattle.property_area.specs.Area.{tree_now, cell_of, word_at, CellStands, Moment, world_of, WordsHold, ViewHolds, AreaHolds, with_cell, Linked, Settled}
use Rattle.property_area.specs.impl_laws.Making.{same_or_other}
use Rattle.property_area.specs.impl_laws.Trees.{trie_same, adding_same, tree_same, word_is, word_else}
use Rattle.property_area.specs.impl_laws.Sets.{others_none, last_longer}
use Rattle.property_area.specs.impl_laws.Fits.{all_short, fit_more}
use Rattle.property_area.specs.impl_laws.Frame.{Mine, clients_later, After, writes}
use Rattle.property_area.specs.impl_laws.CellStores.{own_bounds, own_wide, serial_apart, touch_trie, touch_head, touch_other, stands_else}
use Rattle.property_area.specs.impl_laws.CellSteps.{known, found, some as some_place, c, none, cell_known, legal_known, name_known, short_last, short_serial, own_thirteen}

-- the last set is the new one
pub new_last : (sets : List Set) (name value : List ℕ) → LastSet (sets ++ (name, value) ∷ []) (length (sets ++ (name, value) ∷ [])) name (length sets + 1) value
new_last sets name value = let count = length-append sets ((name, value) ∷ []) in record {
  numbered = record { place = length sets; number_is = refl; set_is = at_last sets (name, value) (length sets) refl };
  early = omega arith;
  last = λ k v low high e. absurd (omega arith);
}

pub new_later : (sets : List Set) (name value : List ℕ) (low : ℕ) → low ≤ length sets → LaterSet (sets ++ (name, value) ∷ []) name low
new_later sets name value low within = (length sets, value, within, at_last sets (name, value) (length sets) refl)

-- a moment with one more set: the serial of its name moves, and those of all others stay
pub one_more : (w w' : World) (name value : List ℕ) → w'.sets ≡ w.sets ++ (name, value) ∷ [] → Moved w w' name → ((q : List ℕ) → q ≢ name → w'.serial q ≡ w.serial q)
    → ((q : List ℕ) (low : ℕ) → low ≤ length w.sets → w.making ≡ Some q → LaterSet w'.sets q low ⊎ (w'.making ≡ Some q)) → Later w w'
one_more w w' name value grown moved others kept = record {
  more = (name, value) ∷ [];
  grown = grown;
  kept = kept;
  moves = λ q. ⊎_elim
      (λ (is_name : q ≡ name). subst (Moved w w') (sym is_name) moved)
      (λ (other : q ≢ name). stays (others q other)
      (subst (λ (sets : List Set). NoneBetween sets q (length w.sets) (length sets)) (sym grown) (others_none w.sets name value q other)))
      (same_or_other q name);
}

pub new_legal : (sets : List Set) (name value : List ℕ) → ((i : ℕ) (set : Set) → get_elem? sets i ≡ some set → IsValue set.1) → IsValue value
    → (i : ℕ) (set : Set) → get_elem? (sets ++ (name, value) ∷ []) i ≡ some set → IsValue set.1
new_legal sets name value legal new i set e = ⊎_elim (λ old. legal i set old) (λ (t : (i ≡ length sets) × ((name, value) ≡ set)). subst (λ (x : Set). IsValue x.1) t.1 new) (at_end sets (name, value) set i e)

module _ (words : List ℕ) (m : Moment) (h : WordsHold words m) (id : ℕ) (v : AreaView) (view : ViewHolds words m id v) (name value : List ℕ) (place : ℕ)
    (linked : Linked v name place) (is : IsUpdating v.cell name value place 25) (settled : Settled v) (few : length m.sets + 1 < 2 ^ 55) where
  abbrev at : ℕ
  at = find (tree_of m.sets) (parts_of name)

  abbrev pub more : List Set
  more = m.sets ++ (name, value) ∷ []

  abbrev number : ℕ
  number = length m.sets + 1

  abbrev pub word : ℕ
  word = clean_serial (top_byte value) number

  abbrev pub words' : List ℕ
  words' = set words at word

  abbrev pub m' : Moment
  m' = record m { sets = more; making = None }

  there : at ≢ 0
  there = some_place words m h id v view name value place 25 linked is

  touch : ((4 ≤ at) × (at < 16)) ⊎ InCell (cell_of m.sets name) at
  touch = let t = there in let wide = own_wide words m h name there in inr (omega arith, omega arith, omega arith)

  same : trie_of (sizes_of more) ≡ trie_of (sizes_of m.sets)
  same = trie_same m.sets name value there

  cell_same : (q : List ℕ) → cell_of more q ≡ cell_of m.sets q
  cell_same q = ap (λ (t : Trie). cell_in t.tree (parts_of q)) same

  place_same : (q : List ℕ) → find (tree_of more) (parts_of q) ≡ find (tree_of m.sets) (parts_of q)
  place_same q = ap (λ (c : Cell). c.place) (cell_same q)

  abbrev own_cell : CellStands words m.sets m.making name
  own_cell = c words m h id v view name value place 25 linked is

  legal : IsShortValue value × HasShortCell m.sets name
  legal = legal_known words m h id v view name value place 25 linked is (omega arith)

  short_old : length own_cell.value ≤ 91
  short_old = short_last words m h id v view name value place 25 linked is legal.1

  before : CellHolds words at own_cell.number own_cell.value value 25
  before = subst (λ (new : List ℕ). CellHolds words at own_cell.number own_cell.value new 25) (new-update name value place 25 (omega arith))
      (cell_known words m h id v view name value place 25 linked is)

  own : CellStands words' more None name
  own = let bounds = own_bounds words m h name there in record {
    number = number;
    value = value;
    last = new_last m.sets name value;
    sized = ap (λ (c : Cell). c.words) (cell_same name) ∙ own_thirteen words m h id v view name value place 25 linked is legal.1
        ∙ (let size = short_size value legal.0.short in omega arith) ∙ sym (cell_words_body value);
    cell = subst (λ (p : ℕ). CellHolds words' p number value [] 0) (sym (place_same name))
        (cell_clean words at own_cell.number own_cell.value value bounds.0 bounds.1 legal.0.short number [] before);
  }

  other_cell : (q : List ℕ) → q ≢ name → find (tree_of m.sets) (parts_of q) ≢ 0 → CellStands words' more None q
  other_cell q other some_q =
      let old = stands_else words at word m.sets m.making None q some_q (touch_other words m h name at word touch q other) (none words m h id v view name value place 25 linked is q other) refl (h.cells q some_q) in record {
        number = old.number;
        value = old.value;
        sized = ap (λ (c : Cell). c.words) (cell_same q) ∙ old.sized;
        last = last_longer m.sets ((name, value) ∷ []) q old.number old.value old.last (others_none m.sets name value q other);
        cell = subst (λ (p : ℕ). CellHolds words' p old.number old.value [] 0) (sym (place_same q)) old.cell;
      }

  count : length more ≡ number
  count = length-append m.sets ((name, value) ∷ [])

  known_now : Mine words m id v (sets_of v.cell) (update name value place 25)
  known_now = known words m h id v view name value place 25 linked is

  head_now : m.head ≡ length m.sets
  head_now = sym known_now.head_is ∙ settled ∙ ap (λ (s : List Set). length s) known_now.sets_are

  holds : WordsHold words' m'
  holds = record {
    few = let n = count in omega arith;
    legal = new_legal m.sets name value h.legal (let few = legal.0.short in record { within = omega arith; bytes = legal.0.bytes });
    fit = fit_more m.sets h.fit name value (let few = legal.0.short in let least = least_len name in omega arith)
        (λ i u on. (all_short m.sets h.fit name own_cell.number own_cell.value own_cell.last short_old i u on, legal.0.short));
    head = touch_head words m h name at word touch 0 (omega arith) ∙ h.head;
    late = inr (let n = count in let e = head_now in omega arith);
    empty = (touch_head words m h name at word touch 2 (omega arith) ∙ h.empty.0, touch_head words m h name at word touch 3 (omega arith) ∙ h.empty.1);
    trie = adding_same words' m.sets more m.adding same (touch_trie words m h name at word touch);
    made = tt;
    cells = λ q some_q. ⊎_elim
        (λ (is_name : q ≡ name). subst (λ (x : List ℕ). CellStands words' more None x) (sym is_name) own)
        (λ (other : q ≢ name). other_cell q other (λ e. some_q (place_same q ∙ e)))
        (same_or_other q name);
  }

  ranks : rank (word_at words at) < rank word
  ranks =
      let last = own_cell.last in
      let within = numbered_within m.sets own_cell.number name own_cell.value last.numbered in
      let old = rank-dirty (top_byte own_cell.value) own_cell.number (omega arith) in
      let is_word : word_at words at ≡ clean_serial (top_byte own_cell.value) own_cell.number + 1 = word_is words at there ∙ before.dirty (omega arith) in
      let e = ap rank is_word in
      let new = rank-clean (top_byte value) number few in
      omega arith

  -- the serial of a name at the later moment
  serial_now : (q : List ℕ) → word_at words' (find (tree_of more) (parts_of q)) ≡ word_at words' (find (tree_of m.sets) (parts_of q))
  serial_now q = ap (word_at words') (place_same q)

  moved : Moved (world_of words m) (world_of words' m') name
  moved =
      let bounds = own_bounds words m h name there in
      let now = serial_now name ∙ word_is words' at there ∙ get_or-set_same words at word 0 (omega arith) in
      accepts_set (subst (λ (w : ℕ). rank (word_at words at) < rank w) (sym now) ranks) (new_later m.sets name value (length m.sets) (omega arith))
      (short_serial words m h id v view name value place 25 linked is legal.1)

  later : Later (world_of words m) (world_of words' m')
  later =
      one_more (world_of words m) (world_of words' m') name value refl moved
      (λ q other. serial_now q ∙ word_else words at word (find (tree_of m.sets) (parts_of q)) (serial_apart words m h q at (touch_other words m h name at word touch q other)))
      (λ q low within e.
      let made : name_of m.making ≡ Some name = name_known words m h id v view name value place 25 linked is (omega arith) in
      let is_name : name ≡ q = cc in
      inl (subst (λ (x : List ℕ). LaterSet more x low) is_name (new_later m.sets name value low within)))

  extends : Extends (tree_now m.sets m.adding) (tree_now more m.adding)
  extends = subst (Extends (tree_now m.sets m.adding)) (sym (tree_same m.sets more m.adding same)) (extends_self (tree_now m.sets m.adding))

  pub after : After words m words' m'
  after = record { wide = length-set words at word; holds = holds; later = later; extends = extends; writer = refl; seats = refl; asked = λ seat v' a. a }

  pub own_view : ViewHolds words' m' id (with_cell v (accepted v.cell name value))
  own_view = record {
    width = view.width ∙ sym (length-set words at word);
    trie = seat_extends (tree_now m.sets m.adding) (tree_now more m.adding) v.trie extends view.trie;
    part = (
      known_now.writes,
      ap (λ (s : List Set). s ++ (name, value) ∷ []) known_now.sets_are,
      refl,
      known_now.adding_is,
      known_now.head_is,
      clients_later (world_of words m) (world_of words' m') later v.clients known_now.clients,
      known_now.requests,
    );
  }

pub area_clean : (key slots id : ℕ) (m : Me (Unit {0}) AreaView) (name value : List ℕ) (place : ℕ)
    → Settled m.0 → Linked m.0 name place → IsUpdating m.0.cell name value place 25 → length (sets_of m.0.cell) + 1 < 2 ^ 55
    → Allows AreaHolds slots id m place (λ _. clean_serial (top_byte value) (length (sets_of m.0.cell) + 1)) (λ _ after. after ≡ (with_cell m.0 (accepted m.0.cell name value), m.1))
area_clean key slots id m name value place settled linked is few s h size here fits =
    let words = s.words in
    let mo = h.moment in
    let v = m.0 in
    let view = h.each id v here in
    let mine = known words mo h.words id v view name value place 25 linked is in
    let count : length (sets_of v.cell) ≡ length mo.sets = ap (λ (x : List Set). length x) mine.sets_are in
    let few' : length mo.sets + 1 < 2 ^ 55 = omega arith in
    let w = with_cell v (accepted v.cell name value) in (
      w,
      keeps,
      tt,
      subst (λ (x : ℕ × ℕ). AreaHolds (stepped s x.0 (clean_serial (top_byte value) (x.1 + 1)) id m.1 w keeps))
          (λ i. (found words mo h.words id v view name value place 25 linked is i, sym count i))
          (writes s h (find (tree_of mo.sets) (parts_of name)) (word words mo h.words id v view name value place linked is settled few') id m.1
          (m' words mo h.words id v view name value place linked is settled few') w
          (after words mo h.words id v view name value place linked is settled few') mine.writes
          (own_view words mo h.words id v view name value place linked is settled few')),
      refl,
    )
