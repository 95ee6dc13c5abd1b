-- What the writer's look at a name, and its set, mean for the store.
use Rattle.std.proofs.Common.{◌≡◌, ◌≢◌, ◌⊎◌, ℕ, ◌+◌, ◌<◌, ◌≤◌, ◌^◌, List, [], ◌∷◌, ◌++◌, length, take, Option, Some, None, sym, refl, ap, ◌∙◌, subst, inl, inr, ⊎_elim, arith, length-append, false, not, nat_lt, true}
use mathlib.Core.Option.{some}
use lib.ListN.{get_elem?}
use Rattle.std.proofs.lemmas.Bool.{cond-false}
use Rattle.init_base.specs.Name.{is_read_only, LegalName}
use Rattle.init_machine.specs.Sets.{Set, NoneBetween, LastSet, value_at}
use Rattle.init_base.specs.Value.{max_value_len}
use Rattle.init_machine.specs.Props.{Property, lookup_in, is_absent, number_of, full_for, with_set, used_in, IsLookUp, MayBeSet}
use Rattle.init_machine.specs.Words.{cell_words, need_of}
use Rattle.init_machine.specs.Serial.{top_byte, number_in}
use Rattle.serial_value.specs.declared.view.CellView.{CellView}
use Rattle.serial_value.specs.declared.view.CellView.TheVariants.{Writer}
use Rattle.serial_value.specs.declared.read.CellAnswer.TheVariants.{Found}
use Rattle.serial_value.specs.Cell.{HasShortCell, Begins, Answers, accepted}
use Rattle.serial_value.specs.impl_laws.Serials.{layout}
use Rattle.serial_value.specs.impl_laws.Places.{at_below}
use Rattle.serial_value.specs.impl_laws.Sets.{last_at, none_at, at_last_set}
use Rattle.serial_value.specs.impl_laws.Bodies.{least_len}
use Rattle.property_trie.specs.Parts.{parts_of}
use Rattle.property_trie.specs.Tree.{find, each_once}
use Rattle.init_machine.specs.Room.{full_with, numbers_full}
use Rattle.init_machine.proofs.Ample.{room_for_any}
use Rattle.init_machine.proofs.LegalNames.{legal_short}
use Rattle.property_trie.specs.TrieSteps.{tree_of, sizes_of, knowing, Finds, HasCellAt, CellInside, Lacks}
use Rattle.property_trie.specs.Additions.{mark_of, new_place}
use Rattle.property_area.specs.declared.view.AreaView.{AreaView}
use Rattle.property_area.specs.Area.{SetsFit, with_cell, with_trie, noted}
use Rattle.property_area.specs.Room.{some_need}
use Rattle.property_area.specs.impl_laws.Sets.{no_set}
use Rattle.property_area.specs.impl_laws.Fits.{all_short, fit_more}
use Rattle.property_area.specs.Meaning.{props_of}
use Rattle.atomic_table.specs.Seated.{TableId}
use Rattle.property_trie.specs.TrieSteps.{IsAtRest}
use Rattle.property_trie.specs.declared.view.TrieView.{TrieView}
use Rattle.property_area.specs.Seats.{sets_in, settled_view, store_of, IsSet, IsWriterView}
use Rattle.property_area.proofs.Meaning.{room_is, short_there, props_capacity, props_count, props_more, props_used, lookup_last, no_cell, room_number, room_fits, mark_kept, mark_added}

module _ (v : AreaView) (sets : List Set) (is : v.cell ≡ Writer sets None) (name : List ℕ) (after : AreaView) where
  -- the name has no cell
  pub found_none : Finds with_trie noted v.words v.cell v.trie v name None after → (find (tree_of sets) (parts_of name) ≡ 0) × (after ≡ v)
  found_none f = subst (λ (c : CellView). Lacks with_trie noted c v name after) is f

  -- and which cell the seat has found
  pub found_at : (place : ℕ) → Finds with_trie noted v.words v.cell v.trie v name (Some place) after
      → CellInside v.words place × (find (tree_of sets) (parts_of name) ≡ place) × (after ≡ with_trie v (knowing v.trie name place))
  found_at place f = (f.0, subst (λ (c : CellView). HasCellAt c name place) is f.1, f.2)

  pub found_some : (place : ℕ) → Finds with_trie noted v.words v.cell v.trie v name (Some place) after
      → CellInside v.words place × (find (tree_of sets) (parts_of name) ≡ place) × (after ≡ with_trie v after.trie)
  found_some place f = (
    f.0,
    subst (λ (c : CellView). HasCellAt c name place) is f.1,
    f.2 ∙ (λ i. with_trie v (sym f.2 i).trie),
  )

-- a name whose cell was found is held
pub held_at : (words : ℕ) (sets : List Set) (name : List ℕ) (place : ℕ) → find (tree_of sets) (parts_of name) ≡ place → 16 ≤ place
    → is_absent (lookup_in (props_of words sets).held name) ≡ false
held_at words sets name place found high = of (lookup_in (props_of words sets).held name) refl
  where
    of : (o : Option Property) → lookup_in (props_of words sets).held name ≡ o → is_absent o ≡ false
    of None e = let none = no_cell words sets name e in absurd (omega (arith, none, found, high))
    of (Some h) e = refl

-- a name that isn't held is looked up so
pub absent_look : (v : AreaView) (name out : List ℕ) → lookup_in (store_of v).held name ≡ None → IsLookUp (lookup_in (store_of v).held name) None out
absent_look v name out none = subst (λ (o : Option Property). IsLookUp o None out) (sym none) refl

-- the value that was found is the one that the store has
pub look_found : (v : AreaView) (sets : List Set) → v.cell ≡ Writer sets None → (name : List ℕ) (after : AreaView) (words len number : ℕ) (before out : List ℕ)
    → Answers with_cell noted v.cell v name (Found len number) before out after → IsLookUp (lookup_in (props_of words sets).held name) (Some (len, number)) out
look_found v sets is name after words len number before out answer =
    let a = subst (λ (c : CellView). Answers with_cell noted c v name (Found len number) before out after) is answer in
    subst (λ (o : Option Property). IsLookUp o (Some (len, number)) out) (sym (lookup_last words sets name number a.0 a.1)) (
      (λ i. Some (a.2 i, number)),
      ap (λ (n : ℕ). take n out) (sym a.2) ∙ a.3,
    )

-- the number in the serial is that of the set that the store has
pub number_found : (words : ℕ) (v : AreaView) (sets : List Set) → v.cell ≡ Writer sets None → (name : List ℕ) (place word : ℕ) (after : CellView)
    → Begins words v.cell name place word after → Some (number_in word) ≡ number_of (lookup_in (props_of v.words sets).held name)
number_found words v sets is name place word after begins =
    let b = (subst (λ (c : CellView). Begins words c name place word after) is begins).1 in
    let number : number_in word ≡ b.number = ap number_in b.serial ∙ (layout (top_byte b.value) b.number b.small).1 in
    ap Some number ∙ sym (ap number_of (lookup_last v.words sets name b.number b.value b.last))

-- a name is in no set, or one of its sets is the last
some_last : (sets : List Set) (name : List ℕ) → NoneBetween sets name 0 (length sets) ⊎ ((number : ℕ) × (value : List ℕ) × LastSet sets (length sets) name number value)
some_last sets name = of_value (value_at sets (length sets) name) refl
  where
    of_value : (o : Option (List ℕ)) → value_at sets (length sets) name ≡ o → NoneBetween sets name 0 (length sets) ⊎ ((number : ℕ) × (value : List ℕ) × LastSet sets (length sets) name number value)
    of_value None at = inl (none_at sets (length sets) (omega arith) name at)
    of_value (Some value) at = let last = last_at sets (length sets) (omega arith) name value at in inr (last.0, value, last.1)

-- the sets fit after a set: of a name that has a short cell, by a short value, or of a new name, by a value that is legal under it
last_short : (sets : List Set) → SetsFit sets → (name : List ℕ) → HasShortCell sets name → (i : ℕ) (u : List ℕ) → get_elem? sets i ≡ some (name, u) → length u ≤ 91
last_short sets fit name short i u on = ⊎_elim
    (λ (t : NoneBetween sets name 0 (length sets)). absurd (t i u (omega arith) (at_below sets i (name, u) on) on))
    (λ (t : (number : ℕ) × (value : List ℕ) × LastSet sets (length sets) name number value).
    all_short sets fit name t.0 t.1 t.2 (short t.1 (at_last_set sets (length sets) (omega arith) name t.0 t.1 t.2)) i u on)
    (some_last sets name)

pub fit_kept : (sets : List Set) → SetsFit sets → (name value : List ℕ) → HasShortCell sets name → length value ≤ 91 → SetsFit (sets ++ (name, value) ∷ [])
fit_kept sets fit name value short few = fit_more sets fit name value (let least = least_len name in omega arith)
    (λ i u on. (last_short sets fit name short i u on, few))

pub fit_new : (sets : List Set) → SetsFit sets → (name value : List ℕ) → find (tree_of sets) (parts_of name) ≡ 0 → length value ≤ max_value_len name → SetsFit (sets ++ (name, value) ∷ [])
fit_new sets fit name value none within =
    fit_more sets fit name value within (λ i u on. absurd (no_set sets name (length sets) none i u (omega arith) (at_below sets i (name, u) on) on))

-- the sets after a set
pub sets_after : (v : AreaView) (name value : List ℕ) (after : AreaView) → IsSet v name value after → sets_in after ≡ sets_in v ++ (name, value) ∷ []
sets_after v name value after is = ap sets_in is

-- what the writer owes at a set, by the sets of the view in which it found the name or not
module _ (v w : AreaView) (same : sets_in w ≡ sets_in v) (words : ℕ) (name : List ℕ) (len : ℕ) (room : full_for (props_of words (sets_in v)) name len ≡ None) where
  pub next_number : (number : ℕ) → number ≡ length (sets_in v) + 1 → length (sets_in v) < 2 ^ 55 → (number ≡ length (sets_in w) + 1) × (number < 2 ^ 55)
  next_number number is few =
      let count = ap (λ (s : List Set). length s) same in
      let next = room_number words (sets_in v) name len room few in
      (omega arith, omega arith)

  pub new_fits : SetsFit (sets_in v) → find (tree_of (sets_in v)) (parts_of name) ≡ 0 → new_place (sets_in w) name + cell_words len ≤ words
  new_fits fit none = subst (λ (s : List Set). new_place s name + cell_words len ≤ words) (sym same) (room_fits words (sets_in v) name len fit room none)

pub used_kept : (v w after : AreaView) (name value : List ℕ) (used : ℕ) → sets_in w ≡ sets_in v → find (tree_of (sets_in v)) (parts_of name) ≢ 0
    → used ≡ mark_of (sets_in v) → IsSet w name value after → used ≡ mark_of (sets_in after)
used_kept v w after name value used same there is set =
    is ∙ sym (ap mark_of (sets_after w name value after set ∙ ap (λ (s : List Set). s ++ (name, value) ∷ []) same) ∙ mark_kept (sets_in v) name value there)

pub used_more : (v w after : AreaView) (name value : List ℕ) (used : ℕ) → sets_in w ≡ sets_in v → find (tree_of (sets_in v)) (parts_of name) ≡ 0
    → used ≡ new_place (sets_in w) name + cell_words (length value) → IsSet w name value after → used ≡ mark_of (sets_in after)
used_more v w after name value used same none is set =
    is ∙ ap (λ (s : List Set). new_place s name + cell_words (length value)) same ∙ sym (ap mark_of (sets_after w name value after set ∙ ap (λ (s : List Set). s ++ (name, value) ∷ []) same) ∙ mark_added (sets_in v) name value none)

pub store_count : (v : AreaView) → (store_of v).count ≡ length (sets_in v)
store_count v = props_count (record { held = []; count = 0; capacity = v.words }) (sets_in v) ∙ omega arith

-- the store after a set
pub store_after : (v : AreaView) (name value : List ℕ) (after : AreaView) → IsSet v name value after → store_of after ≡ with_set (store_of v) name value
store_after v name value after is = ap store_of is ∙ props_more (record { held = []; count = 0; capacity = v.words }) (sets_in v) name value

pub store_used : (v : AreaView) → SetsFit (sets_in v) → used_in (store_of v) ≡ mark_of (sets_in v)
store_used v fit = props_used v.words (sets_in v) fit

-- with words left for any name only the numbers count
pub room_ample : (v : AreaView) (name : List ℕ) (len used words count : ℕ) → SetsFit (sets_in v) → LegalName name
    → used ≡ mark_of (sets_in v) → words ≡ v.words → count ≡ length (sets_in v) → not (nat_lt words (used + (9472 + cell_words len))) ≡ true
    → numbers_full count ≡ full_for (store_of v) name len
room_ample v name len used words count fit legal a b c ample =
    let left : not (nat_lt (store_of v).capacity (used + (9472 + cell_words len))) ≡ true =
    ap (λ (w : ℕ). not (nat_lt w (used + (9472 + cell_words len)))) (props_capacity (record { held = []; count = 0; capacity = v.words }) (sets_in v) ∙ sym b) ∙ ample in
    let full = room_for_any (store_of v) used name len (legal_short name legal) (a ∙ sym (store_used v fit)) left in
    ap numbers_full (c ∙ sym (store_count v)) ∙ sym full

-- what the test of room says
pub room_told : (v : AreaView) (name : List ℕ) (len need used words count : ℕ) → SetsFit (sets_in v) → need ≡ need_of (each_once (sizes_of (sets_in v))) name len
    → used ≡ mark_of (sets_in v) → words ≡ v.words → count ≡ length (sets_in v) → full_with (some_need need) used words count ≡ full_for (store_of v) name len
room_told v name len need used words count fit a b c d = (λ i. full_with (some_need (a i)) (b i) (c i) (d i)) ∙ room_is v.words (sets_in v) name len fit

-- a name that is there may be set where its cell is short
pub may_update : (v w : AreaView) (name value : List ℕ) → sets_in w ≡ sets_in v → SetsFit (sets_in v) → MayBeSet (store_of v) name → find (tree_of (sets_in v)) (parts_of name) ≢ 0
    → length value ≤ max_value_len name → HasShortCell (sets_in w) name × (length value ≤ 91)
may_update v w name value same fit may there within =
    let short = short_there v.words (sets_in v) name fit may there in
    let most : max_value_len name ≡ 91 = cond-false (is_read_only name) 8191 91 short.0 in
    (subst (λ (s : List Set). HasShortCell s name) (sym same) short.1, omega arith)

-- the view of the writer once a set is accepted and word 0 stored
pub set_view : (table : TableId) (v : AreaView) (name value : List ℕ) (trie : TrieView) → IsWriterView table v → IsAtRest trie → length (sets_in v) + 1 < 2 ^ 55
    → SetsFit (sets_in v ++ (name, value) ∷ []) → IsWriterView table (settled_view (with_cell (with_trie v trie) (accepted v.cell name value)))
set_view table v name value trie h rests few fit = record {
  writes = refl;
  settled = refl;
  rests = rests;
  wide = h.wide;
  few = let count = length-append (sets_in v) ((name, value) ∷ []) in omega arith;
  fit = fit;
  still = h.still;
}
