-- One more set leaves each value as long as its name allows, and a long one alone.
use Rattle.std.proofs.Common.{◌≡◌, ℕ, ◌<◌, ◌≤◌, List, [], ◌∷◌, ◌++◌, length, sym, ap, ◌∙◌, subst, ⊎_elim, arith}
use mathlib.Core.Option.{some}
use mathlib.Core.Logic.{dite}
use native.Mathlib.Decide.{dec_le}
use lib.ListN.{get_elem?}
use Rattle.init_base.specs.Value.{max_value_len}
use Rattle.init_machine.specs.Sets.{Set, LastSet}
use Rattle.serial_value.specs.impl_laws.Places.{at_end, same_at}
use Rattle.property_area.specs.Area.{SetsFit}

-- where the last value of a name is short, so are all
pub all_short : (sets : List Set) → SetsFit sets → (name : List ℕ) (number : ℕ) (value : List ℕ) → LastSet sets (length sets) name number value → length value ≤ 91
    → (i : ℕ) (v : List ℕ) → get_elem? sets i ≡ some (name, v) → length v ≤ 91
all_short sets fit name number value last short i v at = dite (dec_le (length v) 91)
    (λ (few : length v ≤ 91). few)
    (λ many.
    let on = last.numbered in
    let same = fit.once i on.place name v value at on.set_is (omega arith) in
    let is : (name, v) ≡ (name, value) = same_at sets i on.place (name, v) (name, value) same at on.set_is in
    let lengths : length v ≡ length value = ap (λ (s : Set). length s.1) is in
    absurd (omega arith))

module _ (sets : List Set) (fit : SetsFit sets) (name value : List ℕ) (within : length value ≤ max_value_len name)
    (alone : (i : ℕ) (v : List ℕ) → get_elem? sets i ≡ some (name, v) → (length v ≤ 91) × (length value ≤ 91)) where
  abbrev more : List Set
  more = sets ++ (name, value) ∷ []

  once_more : (i j : ℕ) (q long other : List ℕ) → get_elem? more i ≡ some (q, long) → get_elem? more j ≡ some (q, other) → 91 < length long → i ≡ j
  once_more i j q long other at at' many = ⊎_elim
      (λ old. ⊎_elim
      (λ old'. fit.once i j q long other old old' many)
      (λ (t : (j ≡ length sets) × ((name, value) ≡ (q, other))).
      let same : q ≡ name = sym (ap (λ (s : Set). s.0) t.1) in
      let few = (alone i long (subst (λ (n : List ℕ). get_elem? sets i ≡ some (n, long)) same old)).0 in
      absurd (omega arith))
      (at_end sets (name, value) (q, other) j at'))
      (λ (t : (i ≡ length sets) × ((name, value) ≡ (q, long))). ⊎_elim
      (λ old'.
      let same : q ≡ name = sym (ap (λ (s : Set). s.0) t.1) in
      let lengths : length value ≡ length long = ap (λ (s : Set). length s.1) t.1 in
      let few = (alone j other (subst (λ (n : List ℕ). get_elem? sets j ≡ some (n, other)) same old')).1 in
      absurd (omega arith))
      (λ (t' : (j ≡ length sets) × ((name, value) ≡ (q, other))). t.0 ∙ sym t'.0)
      (at_end sets (name, value) (q, other) j at'))
      (at_end sets (name, value) (q, long) i at)

  pub fit_more : SetsFit (sets ++ (name, value) ∷ [])
  fit_more = record {
    fits = λ i set e. ⊎_elim
        (λ old. fit.fits i set old)
        (λ (t : (i ≡ length sets) × ((name, value) ≡ set)). subst (λ (x : Set). length x.1 ≤ max_value_len x.0) t.1 within)
        (at_end sets (name, value) set i e);
    once = once_more;
  }
