-- What stays true while the sets grow, and the last set of a name.
use Rattle.std.proofs.Common.{◌≡◌, ℕ, zero, suc, ◌+◌, ◌<◌, ◌≤◌, ◌⊎◌, List, [], ◌∷◌, ◌++◌, length, take, Option, Some, None, Bool, true, false, refl, ap, subst, inl, inr, ⊎_elim, ◌∙◌, arith, length-append}
use Rattle.std.specs.Prelude.{if◌then◌else◌}
use Rattle.std.specs.Str.{bytes_eq}
use Rattle.std.proofs.lemmas.Bool.{cases_Bool}
use Rattle.std.proofs.lemmas.List.{take-append-le, length-take-le}
use Rattle.std.proofs.lemmas.Slice.Eq.{bytes_eq-Decides}
use mathlib.Core.Logic.{dite}
use native.Mathlib.Decide.{dec_le}
use mathlib.Core.Option.{some, some-injective}
use Rattle.atomic_table.proofs.Lists.{at_longer, at_last}
use Rattle.init_machine.specs.Sets.{Set, last_value, value_at, Numbered, NoneBetween, LaterSet, LastSet}
use Rattle.serial_value.specs.Cell.{HasShortCell}
use Rattle.serial_value.specs.impl_laws.Places.{at_below, at_shorter, at_take, at_taken, same_at}

pub numbered_within : (sets : List Set) (number : ℕ) (name value : List ℕ) → Numbered sets number name value → number ≤ length sets
numbered_within sets number name value is =
    let below = at_below sets is.place (name, value) is.set_is in
    let e = is.number_is in omega arith

pub numbered_longer : (sets more : List Set) (number : ℕ) (name value : List ℕ) → Numbered sets number name value → Numbered (sets ++ more) number name value
numbered_longer sets more number name value is =
    record { place = is.place; number_is = is.number_is; set_is = at_longer sets more is.place (name, value) is.set_is }

-- one number, one value
pub numbered_once : (sets : List Set) (number : ℕ) (name value value' : List ℕ) → Numbered sets number name value → Numbered sets number name value' → value ≡ value'
numbered_once sets number name value value' is is' =
    let e = is.number_is in let e' = is'.number_is in
    let same : is.place ≡ is'.place = omega arith in
    ap (λ (s : Set). s.1) (same_at sets is.place is'.place (name, value) (name, value') same is.set_is is'.set_is)

pub none_longer : (sets more : List Set) (name : List ℕ) (low high : ℕ) → high ≤ length sets → NoneBetween sets name low high → NoneBetween (sets ++ more) name low high
none_longer sets more name low high within none k value above below is =
    none k value above below (at_shorter sets more k (name, value) (omega arith) is)

pub later_longer : (sets more : List Set) (name : List ℕ) (low : ℕ) → LaterSet sets name low → LaterSet (sets ++ more) name low
later_longer sets more name low later =
    (later.0, later.1, later.2, at_longer sets more later.0 (name, later.1) later.3)

not_later : (sets : List Set) (count : ℕ) (name : List ℕ) (number number' : ℕ) (value value' : List ℕ)
    → LastSet sets count name number value → LastSet sets count name number' value' → number < number' → ⊥
not_later sets count name number number' value value' last last' less =
    let at = last'.numbered in let e = at.number_is in let early = last'.early in
    last.last at.place value' (omega arith) (omega arith) at.set_is

-- the last set of a name is one
pub last_once : (sets : List Set) (count : ℕ) (name : List ℕ) (number number' : ℕ) (value value' : List ℕ)
    → LastSet sets count name number value → LastSet sets count name number' value' → (number ≡ number') × (value ≡ value')
last_once sets count name number number' value value' last last' =
    let one : number ≤ number' = grind (arith, not_later sets count name number' number value' value last' last) in
    let two : number' ≤ number = grind (arith, not_later sets count name number number' value value' last last') in
    let same : number ≡ number' = omega arith in
    (same, numbered_once sets number' name value value' (subst (λ (n : ℕ). Numbered sets n name value) same last.numbered) last'.numbered)

-- the last value is the last set's, or where the name has no set the given one
LastIs : List Set → List ℕ → Option (List ℕ) → Type 0
LastIs sets name other =
    (NoneBetween sets name 0 (length sets) × (last_value sets name other ≡ other))
    ⊎ ((number : ℕ) × (value : List ℕ) × LastSet sets (length sets) name number value × (last_value sets name other ≡ Some value))

none_behind : (s : Set) (sets : List Set) (name : List ℕ) (low high : ℕ) → NoneBetween sets name low high → NoneBetween (s ∷ sets) name (low + 1) (high + 1)
none_behind s sets name low high none zero value above below e = absurd (omega arith)
none_behind s sets name low high none (suc k) value above below e = none k value (omega arith) (omega arith) e

pub none_more : (s : Set) (sets : List Set) (name : List ℕ) (high : ℕ) → (s.0 ≡ name → ⊥) → NoneBetween sets name 0 high → NoneBetween (s ∷ sets) name 0 (high + 1)
none_more s sets name high other none zero value above below e = other (ap (λ (t : Set). t.0) (some-injective _ _ e))
none_more s sets name high other none (suc k) value above below e = none k value (omega arith) (omega arith) e

-- the first set of a list is the name's last one where no other is of the name
pub first_last : (s : Set) (sets : List Set) (name : List ℕ) → s.0 ≡ name → NoneBetween sets name 0 (length sets) → LastSet (s ∷ sets) (length (s ∷ sets)) name 1 s.1
first_last s sets name is none = record {
  numbered = record { place = 0; number_is = refl; set_is = λ i. some (is i, s.1) };
  early = omega arith;
  last = λ k value above below. none_behind s sets name 0 (length sets) none k value above (omega arith);
}

-- and else the last one stays so behind it
pub last_behind : (s : Set) (sets : List Set) (name : List ℕ) (number : ℕ) (value : List ℕ) → LastSet sets (length sets) name number value
    → LastSet (s ∷ sets) (length (s ∷ sets)) name (number + 1) value
last_behind s sets name number value last = record {
  numbered = record { place = suc last.numbered.place; number_is = let e = last.numbered.number_is in omega arith; set_is = last.numbered.set_is };
  early = let early = last.early in omega arith;
  last = λ k value above below. none_behind s sets name number (length sets) last.last k value above (omega arith);
}

last_is : (sets : List Set) (name : List ℕ) (other : Option (List ℕ)) → LastIs sets name other
unfolding LastIs
last_is [] name other = inl ((λ k value above below e. omega arith), refl)
last_is (s ∷ sets) name other = ⊎_elim
    (λ (t : NoneBetween sets name 0 (length sets) × (last_value sets name (if bytes_eq s.0 name then Some s.1 else other) ≡ (if bytes_eq s.0 name then Some s.1 else other))).
    ⊎_elim
    (λ (same : bytes_eq s.0 name ≡ true).
    let is : s.0 ≡ name = (bytes_eq-Decides s.0 name).0 same in
    inr (
      1,
      s.1,
      first_last s sets name is t.0,
      t.1 ∙ ap (λ (b : Bool). if b then Some s.1 else other) same,
    ))
    (λ (differs : bytes_eq s.0 name ≡ false).
    inl (
      (λ k value above below. none_more s sets name (length sets) (λ is. let same : bytes_eq s.0 name ≡ true = (bytes_eq-Decides s.0 name).1 is in absurd (cc)) t.0 k value above (omega arith)),
      t.1 ∙ ap (λ (b : Bool). if b then Some s.1 else other) differs,
    ))
    (cases_Bool (bytes_eq s.0 name)))
    (λ (t : (number : ℕ) × (value : List ℕ) × LastSet sets (length sets) name number value × (last_value sets name (if bytes_eq s.0 name then Some s.1 else other) ≡ Some value)).
    inr (
      t.0 + 1,
      t.1,
      last_behind s sets name t.0 t.1 t.2,
      t.3,
    ))
    (last_is sets name (if bytes_eq s.0 name then Some s.1 else other))

module _ (sets : List Set) (count : ℕ) (within : count ≤ length sets) where
  front : length (take count sets) ≡ count
  front = length-take-le count sets within

  none_taken : (name : List ℕ) → NoneBetween (take count sets) name 0 (length (take count sets)) → NoneBetween sets name 0 count
  none_taken name none k value above below e = let f = front in none k value above (omega arith) (at_take sets count k (name, value) below e)

  last_taken : (name : List ℕ) (number : ℕ) (value : List ℕ) → LastSet (take count sets) (length (take count sets)) name number value → LastSet sets count name number value
  last_taken name number value last = let f = front in record {
    numbered = record { place = last.numbered.place; number_is = last.numbered.number_is; set_is = at_taken sets count last.numbered.place (name, value) last.numbered.set_is };
    early = let e = last.early in omega arith;
    last = λ k value' above below e. last.last k value' above (omega arith) (at_take sets count k (name, value') below e);
  }

  -- where the name has a value after the first sets, its last set among them has that value
  pub last_at : (name value : List ℕ) → value_at sets count name ≡ Some value → (number : ℕ) × LastSet sets count name number value
  unfolding LastIs
  last_at name value at = ⊎_elim
      (λ (t : NoneBetween (take count sets) name 0 (length (take count sets)) × (value_at sets count name ≡ None)). absurd (let e = t.1 in cc))
      (λ (t : (number : ℕ) × (value' : List ℕ) × LastSet (take count sets) (length (take count sets)) name number value' × (value_at sets count name ≡ Some value')).
      let same : t.1 ≡ value = let e = t.3 in cc in
      (t.0, subst (λ (v : List ℕ). LastSet sets count name t.0 v) same (last_taken name t.0 t.1 t.2)))
      (last_is (take count sets) name None)

  -- where it has none, none of them is of the name
  pub none_at : (name : List ℕ) → value_at sets count name ≡ None → NoneBetween sets name 0 count
  unfolding LastIs
  none_at name at = ⊎_elim
      (λ (t : NoneBetween (take count sets) name 0 (length (take count sets)) × (value_at sets count name ≡ None)). none_taken name t.0)
      (λ (t : (number : ℕ) × (value' : List ℕ) × LastSet (take count sets) (length (take count sets)) name number value' × (value_at sets count name ≡ Some value')).
      absurd (let e = t.3 in cc))
      (last_is (take count sets) name None)

  pub at_last_set : (name : List ℕ) (number : ℕ) (value : List ℕ) → LastSet sets count name number value → value_at sets count name ≡ Some value
  unfolding LastIs
  at_last_set name number value last = ⊎_elim
      (λ (t : NoneBetween (take count sets) name 0 (length (take count sets)) × (value_at sets count name ≡ None)).
      let at = last.numbered in let e = at.number_is in let early = last.early in
      absurd (none_taken name t.0 at.place value (omega arith) (omega arith) at.set_is))
      (λ (t : (number' : ℕ) × (value' : List ℕ) × LastSet (take count sets) (length (take count sets)) name number' value' × (value_at sets count name ≡ Some value')).
      let same = last_once sets count name t.0 number t.1 value (last_taken name t.0 t.1 t.2) last in
      t.3 ∙ ap Some same.1)
      (last_is (take count sets) name None)

  pub at_no_set : (name : List ℕ) → NoneBetween sets name 0 count → value_at sets count name ≡ None
  unfolding LastIs
  at_no_set name none = ⊎_elim
      (λ (t : NoneBetween (take count sets) name 0 (length (take count sets)) × (value_at sets count name ≡ None)). t.1)
      (λ (t : (number' : ℕ) × (value' : List ℕ) × LastSet (take count sets) (length (take count sets)) name number' value' × (value_at sets count name ≡ Some value')).
      let last = last_taken name t.0 t.1 t.2 in let at = last.numbered in let e = at.number_is in let early = last.early in
      absurd (none at.place t.1 (omega arith) (omega arith) at.set_is))
      (last_is (take count sets) name None)

-- values at a count don't change while the sets grow
pub value_longer : (sets more : List Set) (count : ℕ) (name : List ℕ) → count ≤ length sets → value_at (sets ++ more) count name ≡ value_at sets count name
value_longer sets more count name within = ap (λ (front : List Set). last_value front name None) (take-append-le count sets more within)

-- a name of which no set came has the value that it had
pub value_kept : (sets more : List Set) (name value : List ℕ) → NoneBetween (sets ++ more) name (length sets) (length (sets ++ more))
    → value_at (sets ++ more) (length (sets ++ more)) name ≡ Some value → value_at sets (length sets) name ≡ Some value
value_kept sets more name value none at =
    let last = last_at (sets ++ more) (length (sets ++ more)) (omega arith) name value at in
    let is = last.1 in let there = is.numbered in let e = there.number_is in
    let inside : there.place < length sets = dite (dec_le (length sets) there.place)
    (λ (past : length sets ≤ there.place). let early = is.early in absurd (none there.place value past (omega arith) there.set_is))
    (λ before. omega arith) in
    at_last_set sets (length sets) (omega arith) name last.0 value record {
      numbered = record { place = there.place; number_is = e; set_is = at_shorter sets more there.place (name, value) inside there.set_is };
      early = omega arith;
      last = λ k v above below' e'. is.last k v above (let l = length-append sets more in omega arith) (at_longer sets more k (name, v) e');
    }

-- the set at the end is the last one of its name
pub last_end : (sets : List Set) (name value : List ℕ) → LastSet (sets ++ (name, value) ∷ []) (length (sets ++ (name, value) ∷ [])) name (length sets + 1) value
last_end sets name value = let count = length-append sets ((name, value) ∷ []) in record {
  numbered = record { place = length sets; number_is = refl; set_is = at_last sets (name, value) (length sets) refl };
  early = omega arith;
  last = λ k v low high e. absurd (omega arith);
}

-- where its value is short, so is the name's cell
pub short_end : (sets : List Set) (name value : List ℕ) → length value ≤ 91 → HasShortCell (sets ++ (name, value) ∷ []) name
short_end sets name value short v at =
    let more : List Set = sets ++ (name, value) ∷ [] in
    let last : value_at more (length more) name ≡ Some value = at_last_set more (length more) (omega arith) name (length sets + 1) value (last_end sets name value) in
    let same : value ≡ v = cc in
    subst (λ (x : List ℕ). length x ≤ 91) same short
