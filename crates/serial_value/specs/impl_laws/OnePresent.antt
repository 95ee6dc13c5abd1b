-- What a load of the serial or of a word finds in the one cell.
use Rattle.std.proofs.Common.{◌≡◌, ◌≢◌, ℕ, ◌+◌, ◌<◌, ◌≤◌, ◌^◌, ◌⊎◌, List, length, get_or, Option, Some, None, Bool, true, false, sym, ap, ◌∙◌, subst, inl, inr, ⊎_elim, arith}
use mathlib.Core.Logic.{dite}
use native.Mathlib.Decide.{dec_le}
use Rattle.std.specs.Prelude.{if◌then◌else◌}
use Rattle.init_machine.specs.Serial.{top_byte, top_in, number_in, is_dirty}
use Rattle.serial_value.specs.declared.view.Making.{Making}
use Rattle.serial_value.specs.Words.{body_size, body_word, IsValue, IsShortValue}
use Rattle.serial_value.specs.Cell.{name_of, words_place, backup_place, HasValue}
use Rattle.serial_value.specs.One.{the_name, the_place, OneHolds, MayMake, done_of, world_of}
use Rattle.serial_value.specs.impl_laws.Serials.{layout, layout_dirty}
use Rattle.serial_value.specs.impl_laws.Bodies.{short_size, short_top, place-short}
use Rattle.serial_value.specs.impl_laws.Sets.{numbered_within, last_at, last_once}
use Rattle.serial_value.specs.impl_laws.Reads.{IsPresent}
use Rattle.serial_value.specs.impl_laws.OneFrame.{St, serial_in}

made_dirty : (making : Option Making) → MayMake making → 13 ≤ done_of making → name_of making ≡ Some the_name
made_dirty None made done = absurd (omega arith)
made_dirty (Some making) made done = ap Some made.0

module _ (s : St) (h : OneHolds s) where
  abbrev word : ℕ
  word = serial_in s

  pub number_small : h.number < 2 ^ 55
  number_small = let within = numbered_within h.sets h.number the_name h.value h.last.numbered in let few = h.few in omega arith

  pub short_last : IsShortValue h.value
  short_last = let at = h.last.numbered in (h.named at.place (the_name, h.value) at.set_is).1

  pub legal_last : IsValue h.value
  legal_last = let few = short_last.short in record { within = omega arith; bytes = short_last.bytes }

  -- its cell is short
  pub size_last : body_size h.value ≡ 12
  size_last = short_size h.value short_last.short

  -- it is clean before the dirty serial, and dirty from then on
  either_serial : ((done_of h.making ≤ 12) × (is_dirty word ≡ false)) ⊎ ((13 ≤ done_of h.making) × (is_dirty word ≡ true))
  either_serial = dite (dec_le (done_of h.making) 12)
      (λ (d : done_of h.making ≤ 12). inl (d, ap is_dirty (h.cell.clean d) ∙ (layout (top_byte h.value) h.number number_small).2))
      (λ not_clean. let d : 13 ≤ done_of h.making = omega arith in inr (d, ap is_dirty (h.cell.dirty d) ∙ (layout_dirty (top_byte h.value) h.number number_small).2))

  pub top_last : top_in word ≡ top_byte h.value
  top_last = ⊎_elim
      (λ t. ap top_in (h.cell.clean t.0) ∙ (layout (top_byte h.value) h.number number_small).0)
      (λ t. ap top_in (h.cell.dirty t.0) ∙ (layout_dirty (top_byte h.value) h.number number_small).0)
      either_serial

  -- what is known of the present serial
  pub one_present : IsPresent (world_of word h.sets h.making) the_name
  one_present = record {
    number = h.number;
    value = h.value;
    last = h.last;
    legal = legal_last;
    fits = short_last.short;
    number_is = ⊎_elim
        (λ t. ap number_in (h.cell.clean t.0) ∙ (layout (top_byte h.value) h.number number_small).1)
        (λ t. ap number_in (h.cell.dirty t.0) ∙ (layout_dirty (top_byte h.value) h.number number_small).1)
        either_serial;
    top_is = top_last;
    made = λ dirty. ⊎_elim
        (λ (t : (done_of h.making ≤ 12) × (is_dirty word ≡ false)). let clean = t.1 in absurd (cc))
        (λ (t : (13 ≤ done_of h.making) × (is_dirty word ≡ true)). made_dirty h.making h.made t.0)
        either_serial;
  }

  -- the serial isn't that of a long cell
  pub serial_short : top_in word ≢ 255
  serial_short top = short_top h.value short_last.short (sym top_last ∙ top)

  -- the value that the name has is that of the last set
  pub value_is : (value : List ℕ) → HasValue h.sets the_name value → h.value ≡ value
  value_is value at =
      let last = last_at h.sets (length h.sets) (omega arith) the_name value at in
      (last_once h.sets (length h.sets) the_name h.number last.0 h.value value h.last last.1).1

  -- the words that a read which began at the present serial copies are those of the last value
  pub present_word : (k : ℕ) (value : List ℕ) → k < body_size value → HasValue h.sets the_name value
      → get_or s.words (words_place the_place word + k) 0 ≡ body_word value k
  present_word k value small at =
      let same = value_is value at in
      let size = size_last in
      let within : k < body_size h.value = subst (λ (v : List ℕ). k < body_size v) (sym same) small in
      ap (λ (p : ℕ). get_or s.words (p + k) 0) (place-short the_place word serial_short)
      ∙ ⊎_elim
      (λ (t : (done_of h.making ≤ 12) × (is_dirty word ≡ false)).
      subst (λ (x : Bool × List ℕ). get_or s.words ((if x.0 then backup_place else (the_place + 1)) + k) 0 ≡ body_word x.1 k) (λ i. (sym t.1 i, same i)) (h.cell.kept k within (omega arith)))
      (λ (t : (13 ≤ done_of h.making) × (is_dirty word ≡ true)).
      subst (λ (x : Bool × List ℕ). get_or s.words ((if x.0 then backup_place else (the_place + 1)) + k) 0 ≡ body_word x.1 k) (λ i. (sym t.1 i, same i)) (h.cell.backup k within (omega arith)))
      either_serial
