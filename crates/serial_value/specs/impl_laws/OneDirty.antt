-- The dirty serial keeps the rule of the one cell.
use Rattle.std.proofs.Common.{◌≡◌, ◌≢◌, ℕ, ◌+◌, ◌≤◌, List, length, set, Option, Bool, true, false, sym, refl, ap, ◌∙◌, subst, ⊎_elim, arith, get_or-set_same}
use Rattle.std.specs.Prelude.{if◌then◌else◌}
use Rattle.std.specs.Str.{bytes_eq}
use Rattle.std.proofs.lemmas.Bool.{cases_Bool}
use Rattle.atomic_table.specs.Table.{Me, Allows, keeps, stepped}
use Rattle.init_machine.specs.Serial.{top_byte, clean_serial, dirty_serial, top_in, is_dirty}
use Rattle.init_machine.specs.Sets.{Set}
use Rattle.serial_value.specs.declared.view.Making.{Making}
use Rattle.serial_value.specs.declared.view.CellView.TheVariants.{Writer}
use Rattle.serial_value.specs.declared.one.OneView.{OneView}
use Rattle.serial_value.specs.Cell.{sets_of, name_of, update, updating, IsUpdating, IsPresentSerial}
use Rattle.serial_value.specs.World.{Moved}
use Rattle.serial_value.specs.World.Moved.{stays, dirtied}
use Rattle.serial_value.specs.One.{the_name, the_place, OneHolds, CellHolds, new_value, world_of, with_cell, Linked}
use Rattle.serial_value.specs.impl_laws.OneFrame.{serial_in, same_sets, writes, mine, goes_on, cell_known, last_known, legal_known, name-update_later, made-update}
use Rattle.serial_value.specs.impl_laws.OnePresent.{short_last, serial_short}
use Rattle.serial_value.specs.impl_laws.CellWords.{cell_dirty}
use Rattle.serial_value.specs.impl_laws.Serials.{clean-is_clean}

-- the one serial becomes dirty, and the others stay
dirties : (word word' : ℕ) (sets : List Set) (making making' : Option Making) (name : List ℕ) → word' ≡ dirty_serial word → is_dirty word ≡ false → top_in word ≢ 255
    → Moved (world_of word sets making) (world_of word' sets making') name
dirties word word' sets making making' name is clean short = ⊎_elim
    (λ (same : bytes_eq name the_name ≡ true). dirtied
    (subst (λ (b : Bool). (if b then word' else 0) ≡ dirty_serial (if b then word else 0)) (sym same) is)
    (subst (λ (b : Bool). is_dirty (if b then word else 0) ≡ false) (sym same) clean)
    (subst (λ (b : Bool). top_in (if b then word else 0) ≢ 255) (sym same) short))
    (λ (other : bytes_eq name the_name ≡ false). stays
    (subst (λ (b : Bool). (if b then word' else 0) ≡ (if b then word else 0)) (sym other) refl)
    (λ k value above below e. omega arith))
    (cases_Bool (bytes_eq name the_name))

pub one_dirty : (key : List ℕ) (slots id : ℕ) (m : Me (Unit {0}) OneView) (name value : List ℕ) (place clean : ℕ)
    → Unit {0} → Linked m.0 name place → IsUpdating m.0.cell name value place 12 → IsPresentSerial (sets_of m.0.cell) name clean
    → Allows OneHolds slots id m place (λ _. dirty_serial clean) (λ _ after. after ≡ (with_cell m.0 (updating (sets_of m.0.cell) name value place 13), m.1))
one_dirty key slots id m name value place clean settled linked is told s h size here fits =
    let known = mine s h id m.0 name value place 12 here is in
    let next = update name value place 13 in
    let right : clean_serial (top_byte h.value) h.number ≡ clean = sym (told h.number h.value (last_known s h id m.0 name value place 12 known linked.0)) in
    let word = dirty_serial clean in
    let inside : the_place + 13 ≤ length s.words = let wide = h.wide in omega arith in
    let before = cell_known s h id m.0 name value place 12 known in
    let serial : serial_in s ≡ clean = before.clean (omega arith) ∙ right in
    let pure : is_dirty (serial_in s) ≡ false = ap is_dirty (serial ∙ sym right) ∙ clean-is_clean (top_byte h.value) h.number in
    let cell = subst (λ (w : ℕ). CellHolds (set s.words the_place (dirty_serial w)) the_place h.number h.value (new_value next) 13) right
    (cell_dirty s.words the_place h.number h.value value (omega arith) inside (short_last s h).short before) in
    let after = same_sets s h the_place word next (made-update name value place 13 linked.0 linked.1 (legal_known s h id m.0 name value place 12 known (omega arith)) (omega arith)) cell in (
      with_cell m.0 (updating (sets_of m.0.cell) name value place 13),
      keeps,
      tt,
      subst (λ (x : List Set × ℕ). OneHolds (stepped s x.1 word id m.1 (with_cell m.0 (Writer x.0 next)) keeps)) (λ i. (sym known.sets_are i, sym linked.1 i))
          (writes s h the_place word id m.1 m.0 after known.writes
          (goes_on (serial_in s) _ h.sets h.making next
          (λ q e. name-update_later name value place 12 13 q (omega arith) (ap name_of known.making_is ∙ e))
          (λ q. dirties (serial_in s) _ h.sets h.making next q (get_or-set_same s.words the_place word 0 (omega arith) ∙ ap dirty_serial (sym serial)) pure (serial_short s h)))),
      refl,
    )
