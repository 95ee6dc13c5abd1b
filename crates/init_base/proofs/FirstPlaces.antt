-- The first place of a list that passes a test.
use Rattle.std.proofs.Common.{◌≡◌, ℕ, ◌+◌, suc, nat_lt, Bool, true, false, ◌||◌, not, cond, List, [], ◌∷◌, length, refl, ◌∙◌, arith}
use Rattle.std.proofs.lemmas.Grind.{common_steps}
use Rattle.std.specs.List.{list_any, position_or_len}

shifted : (n l : ℕ) → nat_lt (1 + n) (suc l) ≡ nat_lt n l
shifted n l = grind (arith, common_steps)

-- a test passes somewhere exactly where it has a first place
pub any_by_place : {A : Type 0} (p : A → Bool) (xs : List A) → nat_lt (position_or_len p xs) (length xs) ≡ list_any p xs
any_by_place p [] = refl
any_by_place p (x ∷ xs) = by (p x) (any_by_place p xs)
  where
    by : (b : Bool) → nat_lt (position_or_len p xs) (length xs) ≡ list_any p xs
        → nat_lt (cond (not b) (1 + position_or_len p xs) 0) (suc (length xs)) ≡ (b || list_any p xs)
    by true rest = grind (arith, common_steps)
    by false rest = shifted (position_or_len p xs) (length xs) ∙ rest
