-- A reader meets at most two writes of a name for each set of the name since it began.
use Rattle.std.proofs.Common.{◌≡◌, ℕ, zero, suc, ◌+◌, ◌-◌, ◌*◌, ◌%◌, ◌<◌, ◌≤◌, ◌⊎◌, List, [], ◌∷◌, ◌++◌, length, take, drop, Option, Some, None, Bool, true, false, sym, refl, ap, ◌∙◌, subst, inl, inr, ⊎_elim, arith}
use mathlib.Core.Option.{some, some-injective, some-ne-none}
use mathlib.Core.Logic.{dite}
use native.Mathlib.Decide.{dec_le}
use lib.ListN.{get_elem?}
use Rattle.std.specs.Prelude.{if◌then◌else◌}
use Rattle.std.specs.Str.{bytes_eq}
use Rattle.std.proofs.lemmas.Bool.{cases_Bool}
use Rattle.std.proofs.lemmas.Slice.Eq.{bytes_eq-Decides}
use Rattle.atomic_table.proofs.Lists.{at_longer}
use Rattle.init_machine.specs.Serial.{rank, number_in, is_dirty}
use Rattle.init_machine.specs.Sets.{Set, NoneBetween, LaterSet, BeginsWith, last_number_from, last_number_in, count_on}
use Rattle.init_machine.specs.Facts.{MetWrite}
use Rattle.init_machine.specs.Orderly.{ListStands, InOrder, SecondsRise, count_before, count_after, agains_on, last_second}
use Rattle.init_machine.specs.declared.report.Reading.TheVariants.{Found, Absent, Again, Synced, Caught}
use Rattle.init_machine.specs.declared.client.ClientItem.{ClientItem}
use Rattle.init_machine.specs.declared.client.ClientItem.TheVariants.{Told, Asked}
use Rattle.serial_value.specs.History.{made_on}
use Rattle.serial_value.specs.impl_laws.Serials.{even_when_clean, odd_when_dirty}
use Rattle.serial_value.specs.impl_laws.Places.{at_below}

module _ (name : List ℕ) where
  abbrev hit : List ℕ → ℕ
  hit other = if bytes_eq other name then 1 else 0

  hit_same : (other : List ℕ) → other ≡ name → hit other ≡ 1
  hit_same other is = ap (λ (b : Bool). if b then 1 else 0) ((bytes_eq-Decides other name).1 is)

  -- how many of the first sets are of the name
  abbrev count_to : List Set → ℕ → ℕ
  count_to sets m = count_on name (take m sets)

  count_grows : (sets : List Set) (a b : ℕ) → a ≤ b → count_to sets a ≤ count_to sets b
  count_grows sets zero b le = omega arith
  count_grows [] (suc a) b le = omega arith
  count_grows (s ∷ sets) (suc a) zero le = absurd (omega arith)
  count_grows (s ∷ sets) (suc a) (suc b) le = let rest = count_grows sets a b (omega arith) in omega arith

  count_all : (sets : List Set) (a : ℕ) → count_to sets a ≤ count_on name sets
  count_all sets zero = omega arith
  count_all [] (suc a) = omega arith
  count_all (s ∷ sets) (suc a) = let rest = count_all sets a in omega arith

  count_parts : (sets : List Set) (a : ℕ) → count_to sets a + count_on name (drop a sets) ≡ count_on name sets
  count_parts sets zero = omega arith
  count_parts [] (suc a) = omega arith
  count_parts (s ∷ sets) (suc a) = let rest = count_parts sets a in omega arith

  -- one more at a set of the name
  count_more : (sets : List Set) (a k : ℕ) (value : List ℕ) → get_elem? sets k ≡ some (name, value) → a ≤ k → count_to sets a + 1 ≤ count_to sets (suc k)
  count_more [] a k value at le = absurd (some-ne-none _ (sym at))
  count_more (s ∷ sets) zero zero value at le = let h = hit_same s.0 (ap (λ (t : Set). t.0) (some-injective _ _ at)) in omega arith
  count_more (s ∷ sets) zero (suc k) value at le = let rest = count_more sets zero k value at (omega arith) in omega arith
  count_more (s ∷ sets) (suc a) zero value at le = absurd (omega arith)
  count_more (s ∷ sets) (suc a) (suc k) value at le = let rest = count_more sets a k value at (omega arith) in omega arith

  -- none more where none is of the name
  count_none : (sets : List Set) (a b : ℕ) → NoneBetween sets name a b → count_to sets b ≤ count_to sets a
  count_none sets a zero none = omega arith
  count_none [] a (suc b) none = omega arith
  count_none (s ∷ sets) zero (suc b) none =
      let rest = count_none sets zero b (λ k value above below at. none (suc k) value (omega arith) (omega arith) at) in
      let here : hit s.0 ≡ 0 = ⊎_elim
      (λ (same : bytes_eq s.0 name ≡ true).
      absurd (none 0 s.1 (omega arith) (omega arith) (λ i. some ((bytes_eq-Decides s.0 name).0 same i, s.1))))
      (λ (other : bytes_eq s.0 name ≡ false). ap (λ (b : Bool). if b then 1 else 0) other)
      (cases_Bool (bytes_eq s.0 name)) in
      omega arith
  count_none (s ∷ sets) (suc a) (suc b) none =
      let rest = count_none sets a b (λ k value above below at. none (suc k) value (omega arith) (omega arith) at) in omega arith

  count_front : (began more : List Set) → count_to (began ++ more) (length began) ≡ count_on name began
  count_front [] more = refl
  count_front (s ∷ began) more = let rest = count_front began more in omega arith

  -- the last number is of a set of the name, or the given one
  last_place : (sets : List Set) (count number : ℕ)
      → (last_number_from count sets name number ≡ number)
      ⊎ ((k : ℕ) × (value : List ℕ) × (get_elem? sets k ≡ some (name, value)) × (last_number_from count sets name number ≡ count + k + 1))
  last_place [] count number = inl refl
  last_place (s ∷ sets) count number = ⊎_elim
      (λ (rest : last_number_from (count + 1) sets name (if bytes_eq s.0 name then count + 1 else number) ≡ (if bytes_eq s.0 name then count + 1 else number)).
      ⊎_elim
      (λ (same : bytes_eq s.0 name ≡ true).
      inr (
        0,
        s.1,
        (λ i. some ((bytes_eq-Decides s.0 name).0 same i, s.1)),
        let e = rest ∙ ap (λ (b : Bool). if b then count + 1 else number) same in omega arith,
      ))
      (λ (other : bytes_eq s.0 name ≡ false). inl (rest ∙ ap (λ (b : Bool). if b then count + 1 else number) other))
      (cases_Bool (bytes_eq s.0 name)))
      (λ (t : (k : ℕ) × (value : List ℕ) × (get_elem? sets k ≡ some (name, value)) × (last_number_from (count + 1) sets name (if bytes_eq s.0 name then count + 1 else number) ≡ count + 1 + k + 1)).
      inr (suc t.0, t.1, t.2, let e = t.3 in omega arith))
      (last_place sets (count + 1) (if bytes_eq s.0 name then count + 1 else number))

-- each item is about no fewer sets than were seen at first
order_from : (seen : ℕ) (list : List ClientItem) (i : ℕ) (item : ClientItem) → InOrder seen list → get_elem? list i ≡ some item → seen ≤ count_before item
order_from seen [] i item order e = absurd (some-ne-none item (sym e))
order_from seen (f ∷ list) zero item order e = subst (λ (x : ClientItem). seen ≤ count_before x) (some-injective f item e) order.0
order_from seen (f ∷ list) (suc i) item order e = let a = order.0 in let b = order.1 in let c = order_from (count_after f) list i item order.2 e in omega arith

rises_tail : (item : ClientItem) (list : List ClientItem) → SecondsRise (item ∷ list) → SecondsRise list
rises_tail item list rise i j n n' name first first' second second' less e e' = rise (suc i) (suc j) n n' name first first' second second' (omega arith) e e'

module _ (name : List ℕ) where
  abbrev OfName : (ℕ → Type 0) → List ClientItem → Type 0
  OfName P list = (i n first second : ℕ) → get_elem? list i ≡ some (Told (Again name n first second)) → P second

  renamed : (other : List ℕ) (n first second : ℕ) → other ≡ name → some (Told (Again other n first second)) ≡ some (Told (Again name n first second))
  renamed other n first second is = ap (λ (q : List ℕ). some (Told (Again q n first second))) is

  same_name : (other : List ℕ) → bytes_eq other name ≡ true → other ≡ name
  same_name other same = (bytes_eq-Decides other name).0 same

  -- the second serials of the name rise from above `low`: there are no more of them than ranks up to the last one
  pub few_ranks : (list : List ClientItem) (low : ℕ) → SecondsRise list → OfName (λ second. low < rank second) list → agains_on name list + low ≤ last_second name low list
  few_ranks [] low rise above = omega arith
  few_ranks (Told (Again other n first second) ∷ list) low rise above = ⊎_elim
      (λ (same : bytes_eq other name ≡ true).
      let is = same_name other same in
      let rest = few_ranks list (rank second) (rises_tail (Told (Again other n first second)) list rise)
      (λ i n' first' second' e. rise 0 (suc i) n n' name first first' second second' (omega arith) (renamed other n first second is) e) in
      let here = above 0 n first second (renamed other n first second is) in
      subst (λ (b : Bool). (if b then 1 else 0) + agains_on name list + low ≤ last_second name (if b then rank second else low) list) (sym same) (omega arith))
      (λ (differs : bytes_eq other name ≡ false).
      let rest = few_ranks list low (rises_tail (Told (Again other n first second)) list rise) (λ i. above (suc i)) in
      subst (λ (b : Bool). (if b then 1 else 0) + agains_on name list + low ≤ last_second name (if b then rank second else low) list) (sym differs) (omega arith))
      (cases_Bool (bytes_eq other name))
  few_ranks (Told (Found other n value) ∷ list) low rise above = few_ranks list low (rises_tail (Told (Found other n value)) list rise) (λ i. above (suc i))
  few_ranks (Told (Absent other n) ∷ list) low rise above = few_ranks list low (rises_tail (Told (Absent other n)) list rise) (λ i. above (suc i))
  few_ranks (Told (Synced n) ∷ list) low rise above = few_ranks list low (rises_tail (Told (Synced n)) list rise) (λ i. above (suc i))
  few_ranks (Told (Caught n) ∷ list) low rise above = few_ranks list low (rises_tail (Told (Caught n)) list rise) (λ i. above (suc i))
  few_ranks (Asked request ∷ list) low rise above = few_ranks list low (rises_tail (Asked request) list rise) (λ i. above (suc i))

  -- the same by levels that lie above `low`, up to `high`, and rise
  LevelsRise : (ℕ → ℕ) → List ClientItem → Type 0
  LevelsRise level list = (i j n n' first first' second second' : ℕ) → i < j
      → get_elem? list i ≡ some (Told (Again name n first second)) → get_elem? list j ≡ some (Told (Again name n' first' second'))
      → level second < level second'

  few_levels : (level : ℕ → ℕ) (high : ℕ) (list : List ClientItem) (low : ℕ) → low ≤ high → LevelsRise level list
      → OfName (λ second. (low < level second) × (level second ≤ high)) list → agains_on name list + low ≤ high
  unfolding LevelsRise
  few_levels level high [] low le rise between = omega arith
  few_levels level high (Told (Again other n first second) ∷ list) low le rise between = ⊎_elim
      (λ (same : bytes_eq other name ≡ true).
      let is = same_name other same in
      let here = between 0 n first second (renamed other n first second is) in
      let above = here.0 in
      let rest = few_levels level high list (level second) here.1 (λ i j n n' first first' second second' less e e'. rise (suc i) (suc j) n n' first first' second second' (omega arith) e e')
      (λ i n' first' second' e. (rise 0 (suc i) n n' first first' second second' (omega arith) (renamed other n first second is) e, (between (suc i) n' first' second' e).1)) in
      subst (λ (b : Bool). (if b then 1 else 0) + agains_on name list + low ≤ high) (sym same) (omega arith))
      (λ (differs : bytes_eq other name ≡ false).
      let rest = few_levels level high list low le (λ i j n n' first first' second second' less e e'. rise (suc i) (suc j) n n' first first' second second' (omega arith) e e') (λ i. between (suc i)) in
      subst (λ (b : Bool). (if b then 1 else 0) + agains_on name list + low ≤ high) (sym differs) (omega arith))
      (cases_Bool (bytes_eq other name))
  few_levels level high (Told (Found other n value) ∷ list) low le rise between =
      few_levels level high list low le (λ i j n n' first first' second second' less e e'. rise (suc i) (suc j) n n' first first' second second' (omega arith) e e') (λ i. between (suc i))
  few_levels level high (Told (Absent other n) ∷ list) low le rise between =
      few_levels level high list low le (λ i j n n' first first' second second' less e e'. rise (suc i) (suc j) n n' first first' second second' (omega arith) e e') (λ i. between (suc i))
  few_levels level high (Told (Synced n) ∷ list) low le rise between =
      few_levels level high list low le (λ i j n n' first first' second second' less e e'. rise (suc i) (suc j) n n' first first' second second' (omega arith) e e') (λ i. between (suc i))
  few_levels level high (Told (Caught n) ∷ list) low le rise between =
      few_levels level high list low le (λ i j n n' first first' second second' less e e'. rise (suc i) (suc j) n n' first first' second second' (omega arith) e e') (λ i. between (suc i))
  few_levels level high (Asked request ∷ list) low le rise between =
      few_levels level high list low le (λ i j n n' first first' second second' less e e'. rise (suc i) (suc j) n n' first first' second second' (omega arith) e e') (λ i. between (suc i))

rank_parity : (w : ℕ) → rank w % 2 ≡ w % 2
rank_parity w = omega arith

made_one : (name : List ℕ) (making : Option (List ℕ)) → making ≡ Some name → made_on name making ≡ 1
made_one name None is = absurd (cc)
made_one name (Some other) is = let same : other ≡ name = cc in ap (λ (b : Bool). if b then 1 else 0) ((bytes_eq-Decides other name).1 same)

module _ (sets : List Set) (making : Option (List ℕ)) (began : List Set) (name : List ℕ) (begins : BeginsWith sets began) where
  -- twice the sets of the name up to the serial's own, and one more where it is dirty
  abbrev level : ℕ → ℕ
  level second = 2 * count_to name sets (number_in second) + second % 2

  abbrev low_level : ℕ
  low_level = 2 * count_to name sets (length began)

  abbrev high_level : ℕ
  high_level = 2 * count_on name sets + made_on name making

  -- a write that was met after the beginning ranks above the last set of that time, and its level lies between
  met_between : (n first second : ℕ) → length began ≤ n → MetWrite sets making n name first second
      → (2 * last_number_in began name < rank second) × (low_level < level second) × (level second ≤ high_level)
  met_between n first second after met = ⊎_elim
      (λ (dirty : is_dirty second ≡ true).
      let odd = odd_when_dirty second dirty in
      let no_less : last_number_in began name ≤ number_in second = ⊎_elim
      (λ (none : last_number_in began name ≡ 0). omega arith)
      (λ (t : (k : ℕ) × (value : List ℕ) × (get_elem? began k ≡ some (name, value)) × (last_number_in began name ≡ 0 + k + 1)).
      let e = t.3 in let inside = at_below began t.0 (name, t.1) t.2 in
      dite (dec_le (last_number_in began name) (number_in second))
      (λ (h : last_number_in began name ≤ number_in second). h)
      (λ less. absurd (met.dirty dirty t.0 t.1 (omega arith) (omega arith) (there t.0 t.1 t.2))))
      (last_place name began 0 0) in
      let grown : count_to name sets (length began) ≤ count_to name sets (number_in second) = dite (dec_le (length began) (number_in second))
      (λ (h : length began ≤ number_in second). count_grows name sets (length began) (number_in second) h)
      (λ less. count_none name sets (number_in second) (length began) (λ k value above below. met.dirty dirty k value above (omega arith))) in
      let top : level second ≤ high_level = ⊎_elim
      (λ (later : LaterSet sets name (number_in second)).
      let one = count_more name sets (number_in second) later.0 later.1 later.3 later.2 in
      let all = count_all name sets (suc later.0) in omega arith)
      (λ (made : making ≡ Some name). let one = made_one name making made in let all = count_all name sets (number_in second) in omega arith)
      (met.second_is.later dirty) in
      (omega arith, omega arith, top))
      (λ (clean : is_dirty second ≡ false).
      let even = even_when_clean second clean in
      let more = met.clean clean in
      let is = met.second_is.numbered in let e = is.number_is in
      let one = count_more name sets (length began) is.place met.second_is.value is.set_is (omega arith) in
      let here : suc is.place ≡ number_in second = omega arith in
      let up : count_to name sets (suc is.place) ≡ count_to name sets (number_in second) = ap (count_to name sets) here in
      let all = count_all name sets (number_in second) in
      let last : last_number_in began name ≤ length began = ⊎_elim
      (λ (none : last_number_in began name ≡ 0). omega arith)
      (λ (t : (k : ℕ) × (value : List ℕ) × (get_elem? began k ≡ some (name, value)) × (last_number_in began name ≡ 0 + k + 1)).
      let e' = t.3 in let inside = at_below began t.0 (name, t.1) t.2 in omega arith)
      (last_place name began 0 0) in
      (omega arith, omega arith, omega arith))
      (cases_Bool (is_dirty second))
    where
      there : (k : ℕ) (value : List ℕ) → get_elem? began k ≡ some (name, value) → get_elem? sets k ≡ some (name, value)
      there k value e = subst (λ (s : List Set). get_elem? s k ≡ some (name, value)) (sym begins.1) (at_longer began begins.0 k (name, value) e)

  -- of two serials of the name the one that ranks higher has the higher level
  level_rises : (n n' first first' second second' : ℕ) → MetWrite sets making n name first second → MetWrite sets making n' name first' second' → rank second < rank second' → level second < level second'
  level_rises n n' first first' second second' met met' ranks =
      let p = rank_parity second in let p' = rank_parity second' in
      let is = met'.second_is.numbered in let e = is.number_is in
      dite (dec_le (number_in second') (number_in second))
      (λ (le : number_in second' ≤ number_in second).
      let same : number_in second ≡ number_in second' = omega arith in
      let counts = ap (count_to name sets) same in omega arith)
      (λ less.
      let one = count_more name sets (number_in second) is.place met'.second_is.value is.set_is (omega arith) in
      let here : suc is.place ≡ number_in second' = omega arith in
      let up : count_to name sets (suc is.place) ≡ count_to name sets (number_in second') = ap (count_to name sets) here in
      omega arith)

module _ (sets : List Set) (making : Option (List ℕ)) (began : List Set) (list : List ClientItem) (h : ListStands sets making began list) (name : List ℕ) where
  met_at : (i n first second : ℕ) → get_elem? list i ≡ some (Told (Again name n first second)) → (length began ≤ n) × MetWrite sets making n name first second
  met_at i n first second e =
      (order_from (length began) list i (Told (Again name n first second)) h.orderly.order e, h.each i (Again name n first second) e)

  between : (i n first second : ℕ) → get_elem? list i ≡ some (Told (Again name n first second))
      → (2 * last_number_in began name < rank second) × (low_level sets making began name h.begins < level sets making began name h.begins second) × (level sets making began name h.begins second ≤ high_level sets making began name h.begins)
  between i n first second e = let m = met_at i n first second e in met_between sets making began name h.begins n first second m.0 m.1

  -- by the serials alone
  pub few_by_ranks : let low = 2 * last_number_in began name in agains_on name list ≤ last_second name low list - low
  few_by_ranks =
      let low : ℕ = 2 * last_number_in began name in
      let few = few_ranks name list low h.orderly.rise (λ i n first second e. (between i n first second e).0) in omega arith

  -- by the sets
  pub few_by_sets : agains_on name list ≤ 2 * (count_on name (drop (length began) sets) + made_on name making)
  unfolding LevelsRise
  few_by_sets =
      let parts = count_parts name sets (length began) in
      let few = few_levels name (level sets making began name h.begins) (high_level sets making began name h.begins) list (low_level sets making began name h.begins) (omega arith)
      (λ i j n n' first first' second second' less e e'.
      level_rises sets making began name h.begins n n' first first' second second' (met_at i n first second e).1 (met_at j n' first' second' e').1
      (h.orderly.rise i j n n' name first first' second second' less e e'))
      (λ i n first second e. let b = between i n first second e in (b.1, b.2)) in
      omega arith
