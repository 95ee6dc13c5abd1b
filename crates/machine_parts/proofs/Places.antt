-- Whether a list has an element that passes, and its place.
use Rattle.std.proofs.Common.{◌≡◌, ℕ, ◌+◌, suc, Bool, true, false, not, ◌||◌, nat_lt, cond, List, [], ◌∷◌, length, Some, None, refl, sym, ◌∙◌, arith}
use Rattle.std.proofs.lemmas.Bool.Decides.{nat_tests}
use Rattle.std.specs.List.{list_any, position, position_or_len}

-- a place before the end is there exactly where an element passes
pub before_end : {X : Type 0} (p : X → Bool) (xs : List X) → nat_lt (position_or_len p xs) (length xs) ≡ list_any p xs
before_end p [] = refl
before_end p (x ∷ xs) = by (p x) (before_end p xs)
  where
    by : (b : Bool) → nat_lt (position_or_len p xs) (length xs) ≡ list_any p xs
        → nat_lt (cond (not b) (1 + position_or_len p xs) 0) (suc (length xs)) ≡ (b || list_any p xs)
    by true more = grind (arith, nat_tests)
    by false more = grind (arith, nat_tests)

by_test : {A : Type 0} (b : Bool) (a : A) → None ≡ cond b (Some a) None → b ≡ false
by_test true a none = absurd (cc)
by_test false a none = refl

by_test_some : {A : Type 0} (b : Bool) (a found : A) → Some found ≡ cond b (Some a) None → b ≡ true
by_test_some true a found some = refl
by_test_some false a found some = absurd (cc)

pub none_passes : {X : Type 0} (p : X → Bool) (xs : List X) → None ≡ position p xs → list_any p xs ≡ false
none_passes p xs none = sym (before_end p xs) ∙ by_test (nat_lt (position_or_len p xs) (length xs)) (position_or_len p xs) none

pub some_passes : {X : Type 0} (p : X → Bool) (xs : List X) (at : ℕ) → Some at ≡ position p xs → list_any p xs ≡ true
some_passes p xs at some = sym (before_end p xs) ∙ by_test_some (nat_lt (position_or_len p xs) (length xs)) (position_or_len p xs) at some
