-- Ascending lists of numbers with the same members are the same.
use Rattle.std.proofs.Common.{◌≡◌, ℕ, ◌<◌, Bool, true, false, ◌||◌, eqb, List, [], ◌∷◌, refl, sym, ap, ◌∙◌, subst, arith, true≢false}
use Rattle.std.proofs.lemmas.Grind.{common_steps}
use Rattle.std.specs.List.{list_any, AllByRecursion}
use Rattle.std.specs.List.Sorted.{IsStrictlySortedBy}
use Rattle.std.specs.Ordering.{nat_cmp}
use Rattle.std.specs.declared.cmp.Ordering.TheVariants.{Less}

-- numbers that all are above one
abbrev pub AreAbove : ℕ → List ℕ → Type 0
AreAbove x [] = Unit {0}
AreAbove x (y ∷ ys) = (x < y) × AreAbove x ys

-- each number is below those behind it
abbrev pub Ascends : List ℕ → Type 0
Ascends [] = Unit {0}
Ascends (x ∷ xs) = AreAbove x xs × Ascends xs

pub above_weaker : (x y : ℕ) (ys : List ℕ) → x < y → AreAbove y ys → AreAbove x ys
above_weaker x y [] below above = tt
above_weaker x y (z ∷ ys) below above = (omega arith, above_weaker x y ys below above.1)

differs_below : (x y : ℕ) → x < y → eqb x y ≡ false
differs_below x y below = grind (arith, common_steps)

pub itself : (x : ℕ) → eqb x x ≡ true
itself x = grind (arith, common_steps)

same_number : (x y : ℕ) → eqb x y ≡ true → x ≡ y
same_number x y e = grind (arith, common_steps)

-- none of the numbers above is it
pub none_above : (x : ℕ) (ys : List ℕ) → AreAbove x ys → list_any (eqb x) ys ≡ false
none_above x [] above = refl
none_above x (y ∷ ys) above = λ i. differs_below x y above.0 i || none_above x ys above.1 i

-- a list that ascends has no member below its first one
not_below_first : (x y : ℕ) (ys : List ℕ) → AreAbove y ys → x < y → list_any (eqb x) (y ∷ ys) ≡ false
not_below_first x y ys above below = none_above x (y ∷ ys) (below, above_weaker x y ys below above)

tails_same : (q x : ℕ) (a b : Bool) → (eqb q x ≡ true → a ≡ false) → (eqb q x ≡ true → b ≡ false) → (eqb q x || a) ≡ (eqb q x || b) → a ≡ b
tails_same q x a b none_a none_b e = by (eqb q x) refl e
  where
    by : (t : Bool) → eqb q x ≡ t → (t || a) ≡ (t || b) → a ≡ b
    by true is same = none_a is ∙ sym (none_b is)
    by false is same = same

none_of_tail : (q x : ℕ) (xs : List ℕ) → AreAbove x xs → eqb q x ≡ true → list_any (eqb q) xs ≡ false
none_of_tail q x xs above same = subst (λ n. list_any (eqb n) xs ≡ false) (sym (same_number q x same)) (none_above x xs above)

pub same_ascending : (xs ys : List ℕ) → Ascends xs → Ascends ys → ((q : ℕ) → list_any (eqb q) xs ≡ list_any (eqb q) ys) → xs ≡ ys
same_ascending [] [] up_x up_y same = refl
same_ascending [] (y ∷ ys) up_x up_y same = absurd (true≢false (sym (ap (λ b. b || list_any (eqb y) ys) (itself y)) ∙ sym (same y)))
same_ascending (x ∷ xs) [] up_x up_y same = absurd (true≢false (sym (ap (λ b. b || list_any (eqb x) xs) (itself x)) ∙ same x))
same_ascending (x ∷ xs) (y ∷ ys) up_x up_y same =
    let not_x : x < y → ⊥ = λ below. true≢false (sym (ap (λ b. b || list_any (eqb x) xs) (itself x)) ∙ same x ∙ not_below_first x y ys up_y.0 below) in
    let not_y : y < x → ⊥ = λ below. true≢false (sym (ap (λ b. b || list_any (eqb y) ys) (itself y)) ∙ sym (same y) ∙ not_below_first y x xs up_x.0 below) in
    let first : x ≡ y = omega (arith, not_x, not_y) in
    let tail = same_ascending xs ys up_x.1 up_y.1 (λ q. tails_same q x (list_any (eqb q) xs) (list_any (eqb q) ys)
    (none_of_tail q x xs up_x.0)
    (λ is. none_of_tail q y ys up_y.0 (ap (eqb q) (sym first) ∙ is))
    (same q ∙ ap (λ n. eqb q n || list_any (eqb q) ys) (sym first))) in
    λ i. first i ∷ tail i

below_from_less : (x y : ℕ) → nat_cmp x y ≡ Less → x < y
below_from_less x y e = grind (arith, common_steps)

above_from_less : (x : ℕ) (xs : List ℕ) → AllByRecursion (λ y. nat_cmp x y ≡ Less) xs → AreAbove x xs
above_from_less x [] less = tt
above_from_less x (y ∷ xs) less = (below_from_less x y less.0, above_from_less x xs less.1)

pub ascends_from_sorted : (xs : List ℕ) → IsStrictlySortedBy nat_cmp xs → Ascends xs
unfolding IsStrictlySortedBy
ascends_from_sorted [] sorted = tt
ascends_from_sorted (x ∷ xs) sorted = (above_from_less x xs sorted.0, ascends_from_sorted xs sorted.1)

-- no numbers ascend
pub none_ascend : (xs : List ℕ) → xs ≡ [] → IsStrictlySortedBy nat_cmp xs
unfolding IsStrictlySortedBy
none_ascend [] none = tt
none_ascend (x ∷ xs) none = absurd (cc none)
