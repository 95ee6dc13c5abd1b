-- The clean serial, which accepts the set, keeps the rule of the one cell.
use Rattle.std.proofs.Common.{◌≡◌, ◌≢◌, ℕ, ◌+◌, ◌<◌, ◌≤◌, ◌^◌, List, [], ◌∷◌, ◌++◌, length, Option, Some, None, Bool, true, false, sym, refl, ap, ◌∙◌, subst, inl, ⊎_elim, arith, length-append, get_or-set_same}
use mathlib.Core.Option.{some}
use lib.ListN.{get_elem?}
use Rattle.std.specs.Prelude.{if◌then◌else◌}
use Rattle.std.specs.Str.{bytes_eq}
use Rattle.std.proofs.lemmas.Bool.{cases_Bool}
use Rattle.std.proofs.lemmas.Slice.Eq.{bytes_eq-Decides}
use Rattle.atomic_table.specs.Table.{Me, Allows, keeps, stepped}
use Rattle.atomic_table.proofs.Lists.{at_last}
use Rattle.init_machine.specs.Serial.{top_byte, clean_serial, top_in, rank}
use Rattle.init_machine.specs.Sets.{Set, LaterSet}
use Rattle.serial_value.specs.declared.view.Making.{Making}
use Rattle.serial_value.specs.declared.view.CellView.TheVariants.{Writer}
use Rattle.serial_value.specs.declared.one.OneView.{OneView}
use Rattle.serial_value.specs.Words.{IsShortValue}
use Rattle.serial_value.specs.Cell.{sets_of, name_of, accepted, IsUpdating}
use Rattle.serial_value.specs.World.{Moved, Later}
use Rattle.serial_value.specs.World.Moved.{stays, accepted as accepts_set}
use Rattle.serial_value.specs.One.{the_name, the_place, OneHolds, world_of, with_cell, Linked}
use Rattle.serial_value.specs.impl_laws.OneFrame.{serial_in, After, writes, mine, cell_known, legal_known, name_known}
use Rattle.serial_value.specs.impl_laws.OnePresent.{serial_short}
use Rattle.serial_value.specs.impl_laws.CellWords.{cell_clean}
use Rattle.serial_value.specs.impl_laws.Serials.{rank-clean, rank-dirty}
use Rattle.serial_value.specs.impl_laws.Places.{at_below, at_end}
use Rattle.serial_value.specs.impl_laws.Sets.{numbered_within}

module _ (word word' : ℕ) (sets : List Set) (making : Option Making) (value : List ℕ) where
  abbrev more : List Set
  more = sets ++ (the_name, value) ∷ []

  -- the new set is of the one name
  new_set : (low : ℕ) → low ≤ length sets → LaterSet more the_name low
  new_set low within = (length sets, value, within, at_last sets (the_name, value) (length sets) refl)

  moves : (name : List ℕ) → rank word < rank word' → top_in word ≢ 255 → Moved (world_of word sets making) (world_of word' more None) name
  moves name ranks short = ⊎_elim
      (λ (same : bytes_eq name the_name ≡ true).
      let is : name ≡ the_name = (bytes_eq-Decides name the_name).0 same in
      accepts_set
      (subst (λ (b : Bool). rank (if b then word else 0) < rank (if b then word' else 0)) (sym same) ranks)
      (subst (λ (q : List ℕ). LaterSet more q (length sets)) (sym is) (new_set (length sets) (omega arith)))
      (subst (λ (b : Bool). top_in (if b then word else 0) ≢ 255) (sym same) short))
      (λ (other : bytes_eq name the_name ≡ false). stays
      (subst (λ (b : Bool). (if b then word' else 0) ≡ (if b then word else 0)) (sym other) refl)
      (λ k v above below e. ⊎_elim
      (λ old. absurd (let b = within k v old in omega arith))
      (λ (t : (k ≡ length sets) × ((the_name, value) ≡ (name, v))).
      let is : bytes_eq name the_name ≡ true = (bytes_eq-Decides name the_name).1 (ap (λ (s : Set). s.0) (sym t.1)) in absurd (cc))
      (at_end sets (the_name, value) (name, v) k e)))
      (cases_Bool (bytes_eq name the_name))
    where
      within : (k : ℕ) (v : List ℕ) → get_elem? sets k ≡ some (name, v) → k < length sets
      within k v old = at_below sets k (name, v) old

  pub accepts : name_of making ≡ Some the_name → rank word < rank word' → top_in word ≢ 255 → Later (world_of word sets making) (world_of word' more None)
  accepts made ranks short = record {
    more = (the_name, value) ∷ [];
    grown = refl;
    kept = λ q low low_within e. let same : the_name ≡ q = cc in inl (subst (λ (n : List ℕ). LaterSet more n low) same (new_set low low_within));
    moves = λ name. moves name ranks short;
  }

pub one_clean : (key : List ℕ) (slots id : ℕ) (m : Me (Unit {0}) OneView) (name value : List ℕ) (place : ℕ)
    → Unit {0} → Linked m.0 name place → IsUpdating m.0.cell name value place 25 → length (sets_of m.0.cell) + 1 < 2 ^ 55
    → Allows OneHolds slots id m place (λ _. clean_serial (top_byte value) (length (sets_of m.0.cell) + 1)) (λ _ after. after ≡ (with_cell m.0 (accepted m.0.cell name value), m.1))
one_clean key slots id m name value place settled linked is few s h size here fits =
    let known = mine s h id m.0 name value place 25 here is in
    let new : Set = (the_name, value) in
    let more = h.sets ++ new ∷ [] in
    let count : length more ≡ length h.sets + 1 = length-append h.sets (new ∷ []) in
    let few' : length h.sets + 1 < 2 ^ 55 = subst (λ (sets : List Set). length sets + 1 < 2 ^ 55) known.sets_are few in
    let word = clean_serial (top_byte value) (length h.sets + 1) in
    let inside : the_place + 13 ≤ length s.words = let wide = h.wide in omega arith in
    let before = cell_known s h id m.0 name value place 25 known in
    let legal = legal_known s h id m.0 name value place 25 known (omega arith) in
    let within : h.number ≤ length h.sets = numbered_within h.sets h.number the_name h.value h.last.numbered in
    let ranks : rank (serial_in s) < rank word =
    let low = ap rank (before.dirty (omega arith)) ∙ rank-dirty (top_byte h.value) h.number (omega arith) in
    let high = rank-clean (top_byte value) (length h.sets + 1) few' in omega arith in
    let made : name_of h.making ≡ Some the_name = name_known s h id m.0 name value place 25 known (omega arith) ∙ ap Some linked.0 in
    let after : After s the_place word = record {
      sets = more;
      making = None;
      number = length h.sets + 1;
      value = value;
      few = omega arith;
      named = λ i set e. ⊎_elim (λ old. h.named i set old) (λ t. subst (λ (x : Set). (x.0 ≡ the_name) × IsShortValue x.1) t.1 (refl, legal)) (at_end h.sets new set i e);
      last = record {
        numbered = record { place = length h.sets; number_is = refl; set_is = at_last h.sets new (length h.sets) refl };
        early = omega arith;
        last = λ k v low high e. absurd (omega arith);
      };
      made = tt;
      cell = cell_clean s.words the_place h.number h.value value (omega arith) inside legal.short (length h.sets + 1) [] before;
    } in (
      with_cell m.0 (accepted m.0.cell name value),
      keeps,
      tt,
      subst (λ (x : List Set × ℕ × List ℕ). OneHolds (stepped s x.1 (clean_serial (top_byte value) (length x.0 + 1)) id m.1 (with_cell m.0 (Writer (x.0 ++ (x.2, value) ∷ []) None)) keeps))
          (λ i. (sym known.sets_are i, sym linked.1 i, sym linked.0 i))
          (writes s h the_place word id m.1 m.0 after known.writes
          (accepts (serial_in s) _ h.sets h.making value made
          (subst (λ (w : ℕ). rank (serial_in s) < rank w) (sym (get_or-set_same s.words the_place word 0 (omega arith))) ranks)
          (serial_short s h))),
      refl,
    )
