-- What a load of the serial or of a word finds in the cell of a name.
use Rattle.std.proofs.Common.{◌≡◌, ◌≢◌, ℕ, ◌+◌, ◌<◌, ◌≤◌, ◌^◌, ◌⊎◌, List, length, get_or, Bool, true, false, sym, ap, ◌∙◌, subst, inl, inr, ⊎_elim, arith}
use mathlib.Core.Logic.{dite}
use native.Mathlib.Decide.{ℕ_discrete, dec_le}
use Rattle.std.specs.Prelude.{if◌then◌else◌}
use Rattle.init_base.specs.Value.{max_value_len}
use Rattle.init_machine.specs.Serial.{top_byte, top_in, number_in, is_dirty}
use Rattle.serial_value.specs.Words.{body_size, body_word, IsValue}
use Rattle.serial_value.specs.Cell.{words_place, backup_place, HasValue}
use Rattle.serial_value.specs.One.{done_of}
use Rattle.serial_value.specs.impl_laws.Serials.{layout, layout_dirty}
use Rattle.serial_value.specs.impl_laws.Sets.{numbered_within, last_at, last_once, at_last_set}
use Rattle.serial_value.specs.impl_laws.Bodies.{short_size, short_top, short_by_top, cell_words_body, place-long, place-short}
use Rattle.serial_value.specs.impl_laws.Reads.{IsPresent}
use Rattle.property_trie.specs.Parts.{parts_of}
use Rattle.property_trie.specs.Tree.{find}
use Rattle.property_trie.specs.TrieSteps.{tree_of}
use Rattle.property_area.specs.Area.{cell_of, made_on, word_at, CellStands, Moment, world_of, WordsHold}
use Rattle.property_area.specs.impl_laws.Making.{made_past, made_short}
use Rattle.property_area.specs.impl_laws.CellStores.{now, own_lies}
use Rattle.property_area.specs.impl_laws.Trees.{word_is}

module _ (words : List ℕ) (m : Moment) (h : WordsHold words m) (name : List ℕ) (there : find (tree_of m.sets) (parts_of name) ≢ 0) where
  abbrev at : ℕ
  at = find (tree_of m.sets) (parts_of name)

  abbrev pub c : CellStands words m.sets m.making name
  c = h.cells name there

  abbrev done : ℕ
  done = done_of (made_on name m.making)

  abbrev word : ℕ
  word = word_at words at

  loaded : word ≡ get_or words at 0
  loaded = word_is words at there

  pub number_small : c.number < 2 ^ 55
  number_small = let last = c.last in let within = numbered_within m.sets c.number name c.value last.numbered in let few = h.few in omega arith

  pub legal_last : IsValue c.value
  legal_last = let on = c.last.numbered in h.legal on.place (name, c.value) on.set_is

  pub fits_last : length c.value ≤ max_value_len name
  fits_last = let on = c.last.numbered in h.fit.fits on.place (name, c.value) on.set_is

  -- the cell is inside the words
  pub inside_last : at + 1 + body_size c.value ≤ length words
  inside_last =
      let size : (cell_of m.sets name).words ≡ 1 + body_size c.value = c.sized ∙ cell_words_body c.value in
      let t = there in
      let high = (own_lies words m h name (at + body_size c.value) (omega arith, omega arith, omega arith)).1 in
      let room = (now words m h).room in
      omega arith

  -- it is clean before the dirty serial, and dirty from then on
  either_serial : ((done ≤ 12) × (is_dirty word ≡ false)) ⊎ ((13 ≤ done) × (is_dirty word ≡ true))
  either_serial = dite (dec_le done 12)
      (λ (d : done ≤ 12). inl (d, ap is_dirty (loaded ∙ c.cell.clean d) ∙ (layout (top_byte c.value) c.number number_small).2))
      (λ not_clean. let d : 13 ≤ done = omega arith in inr (d, ap is_dirty (loaded ∙ c.cell.dirty d) ∙ (layout_dirty (top_byte c.value) c.number number_small).2))

  pub top_last : top_in word ≡ top_byte c.value
  top_last = ⊎_elim
      (λ (t : (done ≤ 12) × (is_dirty word ≡ false)). ap top_in (loaded ∙ c.cell.clean t.0) ∙ (layout (top_byte c.value) c.number number_small).0)
      (λ (t : (13 ≤ done) × (is_dirty word ≡ true)). ap top_in (loaded ∙ c.cell.dirty t.0) ∙ (layout_dirty (top_byte c.value) c.number number_small).0)
      either_serial

  -- what is known of the present serial
  pub area_present : IsPresent (world_of words m) name
  area_present = record {
    number = c.number;
    value = c.value;
    last = c.last;
    legal = legal_last;
    fits = fits_last;
    number_is = ⊎_elim
        (λ (t : (done ≤ 12) × (is_dirty word ≡ false)). ap number_in (loaded ∙ c.cell.clean t.0) ∙ (layout (top_byte c.value) c.number number_small).1)
        (λ (t : (13 ≤ done) × (is_dirty word ≡ true)). ap number_in (loaded ∙ c.cell.dirty t.0) ∙ (layout_dirty (top_byte c.value) c.number number_small).1)
        either_serial;
    top_is = top_last;
    made = λ dirty. ⊎_elim
        (λ (t : (done ≤ 12) × (is_dirty word ≡ false)). let clean = t.1 in absurd (cc))
        (λ (t : (13 ≤ done) × (is_dirty word ≡ true)). made_past m.making name t.0)
        either_serial;
  }

  -- the value that the name has is that of the last set
  pub value_is : (value : List ℕ) → HasValue m.sets name value → c.value ≡ value
  value_is value on =
      let last = last_at m.sets (length m.sets) (omega arith) name value on in
      (last_once m.sets (length m.sets) name c.number last.0 c.value value c.last last.1).1

  -- a long cell isn't being updated
  long_still : top_in word ≡ 255 → (k : ℕ) → done ≤ 13 + k
  long_still top k = dite (ℕ_discrete done 0)
      (λ none. omega arith)
      (λ some.
      let short = made_short m.sets m.making name h.made (omega arith) c.value (at_last_set m.sets (length m.sets) (omega arith) name c.number c.value c.last) in
      absurd (short_top c.value short (sym top_last ∙ top)))

  -- the words that a read which began at the present serial copies are those of the last value
  pub present_word : (k : ℕ) (value : List ℕ) → k < body_size value → HasValue m.sets name value
      → get_or words (words_place at word + k) 0 ≡ body_word value k
  present_word k value small on =
      let same = value_is value on in
      let within : k < body_size c.value = subst (λ (x : List ℕ). k < body_size x) (sym same) small in
      dite (ℕ_discrete (top_in word) 255)
      (λ top.
      ap (λ (p : ℕ). get_or words (p + k) 0) (place-long at word top) ∙ (c.cell.kept k within (long_still top k) ∙ ap (λ (x : List ℕ). body_word x k) same))
      (λ top.
      let size = short_size c.value (short_by_top c.value (λ e. top (top_last ∙ e))) in
      ap (λ (p : ℕ). get_or words (p + k) 0) (place-short at word top)
      ∙ ⊎_elim
      (λ (t : (done ≤ 12) × (is_dirty word ≡ false)).
      subst (λ (x : Bool × List ℕ). get_or words ((if x.0 then backup_place else (at + 1)) + k) 0 ≡ body_word x.1 k) (λ i. (sym t.1 i, same i)) (c.cell.kept k within (omega arith)))
      (λ (t : (13 ≤ done) × (is_dirty word ≡ true)).
      subst (λ (x : Bool × List ℕ). get_or words ((if x.0 then backup_place else (at + 1)) + k) 0 ≡ body_word x.1 k) (λ i. (sym t.1 i, same i)) (c.cell.backup k within (omega arith)))
      either_serial)
