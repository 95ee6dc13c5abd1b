-- The places at which a test passes.
use Rattle.std.proofs.Common.{◌≡◌, ℕ, zero, suc, ◌<◌, Bool, true, false, List, [], ◌∷◌, length, get_or, Option, Some, None, position, ◌++◌, ◌||◌, length-append, refl, ap, ◌∙◌, arith}
use Rattle.std.proofs.lemmas.Grind.{common_steps}
use Rattle.std.proofs.lemmas.List.Sums.{fails_before_first, position_or_len_is}
use Rattle.std.proofs.Math.ListN.{get_or-append}
use Rattle.std.proofs.lemmas.List.Quantifiers.{position-Some}
use Rattle.std.specs.List.{list_any, position_or_len}

-- nothing passes where no place is the first
pub fails_everywhere : {X : Type 0} (p : X → Bool) (xs : List X) (k : ℕ) (d : X) → position p xs ≡ None → k < length xs → p (get_or xs k d) ≡ false
fails_everywhere p xs k d none within = fails_before_first p xs k d (grind (arith, common_steps))

-- where only one place passes, it is the first
pub only_place : {X : Type 0} (p : X → Bool) (xs : List X) (i : ℕ) (d : X) → i < length xs → p (get_or xs i d) ≡ true
    → ((k : ℕ) → k < length xs → p (get_or xs k d) ≡ true → k ≡ i) → position p xs ≡ Some i
only_place p xs i d within passes only = by (position p xs) refl
  where
    by : (r : Option ℕ) → position p xs ≡ r → r ≡ Some i
    by None none = absurd (cc (fails_everywhere p xs i d none within))
    by (Some k) is =
        let at = position-Some p xs k d is in
        ap Some (only k at.0 at.1)

-- the first place at which it passes
pub first_place : {X : Type 0} (p : X → Bool) (xs : List X) (i : ℕ) (d : X) → i < length xs → p (get_or xs i d) ≡ true → ((k : ℕ) → k < i → p (get_or xs k d) ≡ false)
    → position p xs ≡ Some i
first_place p xs i d within passes fails =
    let at : position_or_len p xs ≡ i = position_or_len_is p xs i d (omega arith) fails (λ less. passes) in
    grind (arith, common_steps)

-- it stays where more come behind
pub place_stays : {X : Type 0} (p : X → Bool) (xs ys : List X) (i : ℕ) (d : X) → position p xs ≡ Some i → position p (xs ++ ys) ≡ Some i
place_stays p xs ys i d is =
    let at = position-Some p xs i d is in
    let within : i < length (xs ++ ys) = omega (arith, length-append xs ys) in
    first_place p (xs ++ ys) i d within (ap p (get_or-append xs ys d i at.0) ∙ at.1)
    (λ k less. ap p (get_or-append xs ys d k (omega arith)) ∙ at.2 k less)

-- somewhere it passes
pub any_at : {X : Type 0} (p : X → Bool) (xs : List X) (i : ℕ) (d : X) → i < length xs → p (get_or xs i d) ≡ true → list_any p xs ≡ true
any_at p [] i d within passes = absurd (omega arith)
any_at p (x ∷ xs) zero d within passes = ap (λ b. b || list_any p xs) passes
any_at p (x ∷ xs) (suc i) d within passes = ap (λ b. p x || b) (any_at p xs i d (omega arith) passes) ∙ or_true (p x)
  where
    or_true : (b : Bool) → (b || true) ≡ true
    or_true true = refl
    or_true false = refl

-- nowhere it passes
pub any_nowhere : {X : Type 0} (p : X → Bool) (xs : List X) (d : X) → ((k : ℕ) → k < length xs → p (get_or xs k d) ≡ false) → list_any p xs ≡ false
any_nowhere p [] d fails = refl
any_nowhere p (x ∷ xs) d fails =
    ap (λ b. b || list_any p xs) (fails 0 (omega arith)) ∙ any_nowhere p xs d (λ k less. fails (suc k) (omega arith))
