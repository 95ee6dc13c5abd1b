-- What a reader is told that had seen all sets, and no more sets are there, is what is so now.
use Rattle.std.proofs.Common.{◌≡◌, ℕ, ◌≤◌, true, false, List, [], ◌∷◌, ◌++◌, length, Option, Some, None, refl, sym, ap, ◌∙◌, subst, ⊎_elim, arith}
use Rattle.std.proofs.lemmas.Bool.{cases_Bool}
use mathlib.Core.Option.{some}
use lib.ListN.{get_elem?}
use Rattle.init_machine.specs.Facts.{MetWrite, Stands}
use Rattle.init_machine.specs.History.{Legal, after, inputs_of, sets_of}
use Rattle.init_machine.specs.Orderly.{ListStands, seen_after, seen_through}
use Rattle.init_machine.specs.Serial.{is_dirty}
use Rattle.init_machine.specs.Sets.{Set, value_at}
use Rattle.init_machine.specs.State.{Opening, State, value_now}
use Rattle.init_machine.specs.declared.client.ClientItem.{ClientItem}
use Rattle.init_machine.specs.declared.client.ClientItem.TheVariants.{Told}
use Rattle.init_machine.specs.declared.report.Entry.{Entry}
use Rattle.init_machine.specs.declared.report.Reading.{Reading}
use Rattle.init_machine.specs.declared.report.Reading.TheVariants as reading
use Rattle.machine_laws.proofs.Counted.{last_values, sets_count}
use Rattle.machine_laws.proofs.Options.{none_is_no_value}
use Rattle.property_area.specs.Readers.{seen_by}
use Rattle.property_area.specs.declared.view.AreaView.{AreaView}
use Rattle.serial_value.specs.impl_laws.Lists.{seen_through-end}
use Rattle.serial_value.specs.impl_laws.Places.{at_below}
use Rattle.init_driver.specs.Readings.{read_as, read_now}
use Rattle.init_driver.specs.Told.{TellsRead}

-- no read meets a write where no set is being made and its reader has seen all
met_none : (sets : List Set) (number : ℕ) (name : List ℕ) (first second : ℕ) → length sets ≤ number → MetWrite sets None number name first second → ⊥
met_none sets number name first second seen h = ⊎_elim
    (λ (dirty : is_dirty second ≡ true). ⊎_elim
    (λ later.
    let within = at_below sets later.0 (name, later.1) later.3 in
    h.dirty dirty later.0 later.1 later.2 (omega arith) later.3)
    (λ making. none_is_no_value name making)
    (h.second_is.later dirty))
    (λ (clean : is_dirty second ≡ false).
    let numbered = h.second_is.numbered in
    let within = at_below sets numbered.place (name, h.second_is.value) numbered.set_is in
    let above = h.clean clean in
    let is = numbered.number_is in
    absurd (omega arith))
    (cases_Bool (is_dirty second))

-- ---- the last reading of a list

at_end_is : (list : List ClientItem) (item : ClientItem) → get_elem? (list ++ item ∷ []) (length list) ≡ some item
at_end_is [] item = refl
at_end_is (first ∷ list) item = at_end_is list item

-- a reading stands, and is about no more sets than there are
pub record IsWithin (sets : List Set) (reading : Reading) : Type 0 where
  pub stands : Stands sets None reading
  pub seen : seen_after reading ≤ length sets

pub last_within : (sets began : List Set) (list : List ClientItem) (told : Reading) → ListStands sets None began (list ++ Told told ∷ [])
    → seen_through (length began) (list ++ Told told ∷ []) ≤ length sets → IsWithin sets told
last_within sets began list told h within = record {
  stands = h.each (length list) told (at_end_is list (Told told));
  seen = subst (λ n. n ≤ length sets) (seen_through-end (length began) list (Told told)) within;
}

-- ---- what is so now

module _ (o : Opening) (history : List Entry) (legal : Legal o history) where
  abbrev sets : List Set
  sets = sets_of history

  abbrev s : State
  s = after o (inputs_of history)

  read_is : (name : List ℕ) (value : Option (List ℕ)) → value_at sets (length sets) name ≡ value → read_as name (length sets) value ≡ read_now s name
  read_is name value is =
      ap (read_as name (length sets)) (sym is ∙ sym (last_values o history name legal))
      ∙ ap (λ n. read_as name n (value_now s name)) (sym (sets_count o history legal))

  found_is : (name other : List ℕ) (number : ℕ) (value : List ℕ) → other ≡ name → number ≡ length sets → value_at sets number other ≡ Some value
      → reading.Found other number value ≡ read_now s name
  found_is name other number value same all is =
      ap (λ n. reading.Found other n value) all
      ∙ ap (λ (text : List ℕ). reading.Found text (length sets) value) same
      ∙ read_is name (Some value) (ap (λ n. value_at sets n name) (sym all) ∙ ap (λ (text : List ℕ). value_at sets number text) (sym same) ∙ is)

  absent_is : (name other : List ℕ) (number : ℕ) → other ≡ name → number ≡ length sets → value_at sets number other ≡ None
      → reading.Absent other number ≡ read_now s name
  absent_is name other number same all is =
      ap (λ n. reading.Absent other n) all
      ∙ ap (λ (text : List ℕ). reading.Absent text (length sets)) same
      ∙ read_is name None (ap (λ n. value_at sets n name) (sym all) ∙ ap (λ (text : List ℕ). value_at sets number text) (sym same) ∙ is)

  -- a read of a reader that had seen all sets
  pub now_read : (v behind : AreaView) (name : List ℕ) (told : Reading) → seen_by v.cell ≡ length sets → TellsRead v name told behind
      → IsWithin sets told → told ≡ read_now s name
  now_read v behind name (reading.Found other number value) seen tells h =
      let least = tells.1 in
      let most = h.seen in
      found_is name other number value tells.0 (omega arith) h.stands.1
  now_read v behind name (reading.Absent other number) seen tells h = absent_is name other number tells.0 (tells.1 ∙ seen) h.stands.1
  now_read v behind name (reading.Again other number first second) seen tells h =
      let is = tells.1 in
      absurd (met_none sets number other first second (omega arith) h.stands)
  now_read v behind name (reading.Synced number) seen tells h = absurd tells
  now_read v behind name (reading.Caught number) seen tells h = absurd tells

  pub count_now : (count : ℕ) → count ≡ length sets → count ≡ s.props.count
  count_now count is = is ∙ sym (sets_count o history legal)

  -- the count that such a reader loads
  pub now_caught : (v : AreaView) (number : ℕ) → seen_by v.cell ≡ length sets → seen_by v.cell ≤ number → IsWithin sets (reading.Caught number)
      → number ≡ s.props.count
  now_caught v number seen least h =
      let most = h.seen in
      let all : number ≡ length sets = omega arith in
      count_now number all
