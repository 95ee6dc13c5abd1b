-- The text in a field of form one.
use Rattle.std.proofs.Common.{◌≡◌, ℕ, Bool, true, false, cond, List, take, Some, None, refl, ap, sym}
use Rattle.std.specs.List.{before_first, position, position_or_len}
use Rattle.std.proofs.lemmas.Bool.{ltb-false}
use Rattle.std.proofs.lemmas.List.{take_all}

place_of_some : (b : Bool) (n end : ℕ) → cond b (Some n) None ≡ Some end → n ≡ end
place_of_some true n end is = cc
place_of_some false n end is = cc

-- what stands before the first place
pub before_some : {X : Type 0} (p : X → Bool) (xs : List X) (end : ℕ) → position p xs ≡ Some end → take end xs ≡ before_first p xs
before_some p xs end is = ap (λ n. take n xs) (sym (place_of_some _ _ end is))

none_is_false : (b : Bool) (n : ℕ) → cond b (Some n) None ≡ None → b ≡ false
none_is_false true n is = cc
none_is_false false n is = refl

-- all stands before no place
pub before_none : {X : Type 0} (p : X → Bool) (xs : List X) → position p xs ≡ None → xs ≡ before_first p xs
before_none p xs is = sym (take_all (position_or_len p xs) xs (ltb-false _ _ (none_is_false _ _ is)))
