-- The first place of a list that passes a test.
use Rattle.std.proofs.Common.{◌≡◌, ℕ, ◌+◌, ◌<◌, Bool, true, false, cond, if◌then◌else◌, ◌-◌, take, drop, List, length, refl, ap, sym, ◌∙◌, Some, None, arith, nat_lt}
use Rattle.std.specs.List.{list_any, position, position_or_len, after_first}
use Rattle.std.proofs.lemmas.Bool.{ltb-true}
use Rattle.std.proofs.lemmas.List.{take_rest}
use Rattle.init_base.proofs.FirstPlaces.{any_by_place}

found : (t : Bool) (a place : ℕ) → Some place ≡ cond t (Some a) None → (t ≡ true) × (place ≡ a)
found true a place h = (refl, cc)
found false a place h = cc

not_found : (t : Bool) (a : ℕ) → None ≡ cond t (Some a) None → t ≡ false
not_found true a h = cc
not_found false a h = refl

-- the place that was found is the first that passes
pub record IsPlace {X : Type 0} (p : X → Bool) (xs : List X) (place : ℕ) : Type 0 where
  pub passes : list_any p xs ≡ true
  pub first : place ≡ position_or_len p xs
  pub inside : place < length xs

pub place_found : {X : Type 0} (p : X → Bool) (xs : List X) (place : ℕ) → Some place ≡ position p xs → IsPlace p xs place
place_found p xs place h =
    let f = found (nat_lt (position_or_len p xs) (length xs)) (position_or_len p xs) place h in
    record {
      passes = sym (any_by_place p xs) ∙ f.0;
      first = f.1;
      inside = omega (arith, f.1, ltb-true (position_or_len p xs) (length xs) f.0);
    }

pub none_found : {X : Type 0} (p : X → Bool) (xs : List X) → None ≡ position p xs → list_any p xs ≡ false
none_found p xs h = sym (any_by_place p xs) ∙ not_found _ (position_or_len p xs) h

-- what stands behind it, as a slice of the list
pub behind_found : {X : Type 0} (p : X → Bool) (xs : List X) (place : ℕ) → Some place ≡ position p xs
    → take (length xs - (place + 1)) (drop (place + 1) xs) ≡ (if list_any p xs then after_first p xs else xs)
behind_found {X} p xs place h =
    let f = place_found p xs place h in
    take_rest xs (place + 1) ∙ ap (λ (n : ℕ). drop (n + 1) xs) f.first ∙ ap (λ (b : Bool). if b then after_first p xs else xs) (sym f.passes)

pub all_behind : {X : Type 0} (p : X → Bool) (xs : List X) → None ≡ position p xs → xs ≡ (if list_any p xs then after_first p xs else xs)
all_behind p xs h = ap (λ (b : Bool). if b then after_first p xs else xs) (sym (none_found p xs h))
