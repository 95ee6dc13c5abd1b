-- Lists by place, and lists side by side.
use Rattle.std.proofs.Common.{◌≡◌, ◌≢◌, ◌⊎◌, inl, inr, ⊎_elim, ℕ, zero, suc, ◌<◌, ◌≤◌, Bool, true, false, true≢false, ◌||◌, List, [], ◌∷◌, ◌++◌, length, map, set, take, get_or, slice_get, All, Option, Some, None, is_some, unwrap_or, refl, sym, ap, ◌∙◌, subst, arith}
use Rattle.std.specs.List.{AllZip}
use Rattle.std.proofs.lemmas.List.Elements.{All-append}
use Rattle.std.proofs.lemmas.Option.{slice_get-get_or}

pub some_is : {A : Type 0} (x y : A) → Some x ≡ Some y → x ≡ y
some_is {A} x y e = ap (λ (o : Option A). unwrap_or o x) e

pub none_isnt : {A : Type 0} (x : A) → None ≡ Some x → ⊥
none_isnt {A} x e = true≢false (sym (ap (λ (o : Option A). is_some o) e))

abbrev tail : {A : Type 0} → List A → List A
tail [] = []
tail (x ∷ xs) = xs

pub heads : {A : Type 0} (x y : A) (xs ys : List A) → x ∷ xs ≡ y ∷ ys → x ≡ y
heads {A} x y xs ys e = ap (λ (l : List A). get_or l 0 x) e

pub tails : {A : Type 0} (x y : A) (xs ys : List A) → x ∷ xs ≡ y ∷ ys → xs ≡ ys
tails {A} x y xs ys e = ap (λ (l : List A). tail l) e

pub nil_isnt : {A : Type 0} (x : A) (xs : List A) → [] ≡ x ∷ xs → ⊥
nil_isnt {A} x xs e = absurd (omega (arith, ap (λ (l : List A). length l) e))

-- what stands in a list of which one place was given a new value
pub get_set : {A : Type 0} (xs : List A) (at k : ℕ) (new x : A) → slice_get (set xs at new) k ≡ Some x
    → ((k ≡ at) × (new ≡ x)) ⊎ ((k ≢ at) × (slice_get xs k ≡ Some x))
get_set [] at k new x e = absurd (none_isnt x e)
get_set (y ∷ ys) zero zero new x e = inl (refl, some_is new x e)
get_set (y ∷ ys) zero (suc k) new x e = inr ((λ is. absurd (omega (arith, is))), e)
get_set (y ∷ ys) (suc at) zero new x e = inr ((λ is. absurd (omega (arith, is))), e)
get_set (y ∷ ys) (suc at) (suc k) new x e =
    ⊎_elim (λ (is : (k ≡ at) × (new ≡ x)). inl (ap suc is.0, is.1))
    (λ (is : (k ≢ at) × (slice_get ys k ≡ Some x)). inr ((λ same. is.0 (omega (arith, same))), is.1)) (get_set ys at k new x e)

-- what stands in a list with one more at its end
pub get_end : {A : Type 0} (xs : List A) (y : A) (k : ℕ) (x : A) → slice_get (xs ++ y ∷ []) k ≡ Some x
    → (slice_get xs k ≡ Some x) ⊎ ((k ≡ length xs) × (y ≡ x))
get_end [] y zero x e = inr (refl, some_is y x e)
get_end [] y (suc k) x e = absurd (none_isnt x e)
get_end (z ∷ xs) y zero x e = inl e
get_end (z ∷ xs) y (suc k) x e =
    ⊎_elim (λ (is : slice_get xs k ≡ Some x). inl is) (λ (is : (k ≡ length xs) × (y ≡ x)). inr (ap suc is.0, is.1)) (get_end xs y k x e)

-- something stands at each place within
pub there_is : {A : Type 0} (xs : List A) (k : ℕ) → k < length xs → (x : A) × (slice_get xs k ≡ Some x)
there_is [] k less = absurd (omega (arith, less))
there_is (x ∷ xs) zero less = (x, refl)
there_is (x ∷ xs) (suc k) less = there_is xs k (omega (arith, less))

-- the same value stands at one place
pub same_at : {A : Type 0} (xs : List A) (j k : ℕ) (x y : A) → slice_get xs j ≡ Some x → slice_get xs k ≡ Some y → j ≡ k → x ≡ y
same_at xs j k x y at there is = some_is x y (sym at ∙ ap (slice_get xs) is ∙ there)

-- what is read at a place
pub read_at : {A : Type 0} (xs : List A) (k : ℕ) (x d : A) → k < length xs → x ≡ get_or xs k d → slice_get xs k ≡ Some x
read_at xs k x d less is = slice_get-get_or xs k d less ∙ ap (λ y. Some y) (sym is)

-- the first ones, with the next
pub take_next : {A : Type 0} (xs : List A) (k : ℕ) (x : A) → slice_get xs k ≡ Some x → take (suc k) xs ≡ take k xs ++ x ∷ []
take_next [] k x e = absurd (none_isnt x e)
take_next (y ∷ xs) zero x e = ap (λ z. z ∷ []) (some_is y x e)
take_next (y ∷ xs) (suc k) x e = ap (λ l. y ∷ l) (take_next xs k x e)

all_one : {A : Type 0} (P : A → Type 0) (x : A) → P x → All P (x ∷ [])
all_one P x p zero d less = p
all_one P x p (suc k) d less = absurd (omega (arith, less))

pub all_end : {A : Type 0} (P : A → Type 0) (xs : List A) (x : A) → All P xs → P x → All P (xs ++ x ∷ [])
all_end P xs x all p = All-append P xs (x ∷ []) all (all_one P x p)

pub all_at : {A : Type 0} (P : A → Type 0) (xs : List A) (k : ℕ) (x : A) → All P xs → slice_get xs k ≡ Some x → P x
all_at P [] k x all e = absurd (none_isnt x e)
all_at P (y ∷ xs) zero x all e = subst P (some_is y x e) (all zero x (omega arith))
all_at P (y ∷ xs) (suc k) x all e = all_at P xs k x (λ j d less. all (suc j) d (omega (arith, less))) e

-- lists by place are lists side by side
pub zip_of : {A B : Type 0} (R : A → B → Type 0) (xs : List A) (ys : List B) → length ys ≡ length xs
    → ((k : ℕ) (x : A) (y : B) → slice_get xs k ≡ Some x → slice_get ys k ≡ Some y → R x y) → AllZip R xs ys
zip_of R [] [] many each = tt
zip_of R [] (y ∷ ys) many each = absurd (omega (arith, many))
zip_of R (x ∷ xs) [] many each = absurd (omega (arith, many))
zip_of R (x ∷ xs) (y ∷ ys) many each =
    (each zero x y refl refl, zip_of R xs ys (omega (arith, many)) (λ k a b at there. each (suc k) a b at there))

-- beside what is made of the second list
pub zip_map : {A B C : Type 0} (R : A → C → Type 0) (f : B → C) (xs : List A) (ys : List B) → AllZip (λ x y. R x (f y)) xs ys
    → AllZip R xs (map f ys)
zip_map R f [] [] each = tt
zip_map R f [] (y ∷ ys) each = absurd each
zip_map R f (x ∷ xs) [] each = absurd each
zip_map R f (x ∷ xs) (y ∷ ys) each = (each.0, zip_map R f xs ys each.1)

-- beside what is found in the second list
pub zip_found : {A B C : Type 0} (R : A → C → Type 0) (f : B → Option C) (xs : List A) (ys : List B) (zs : List C)
    → map (λ (z : C). Some z) zs ≡ map f ys → AllZip (λ x y. (z : C) → f y ≡ Some z → R x z) xs ys → AllZip R xs zs
zip_found {C = C} R f [] [] [] found each = tt
zip_found {C = C} R f [] [] (z ∷ zs) found each = absurd (nil_isnt _ _ (sym found))
zip_found {C = C} R f [] (y ∷ ys) zs found each = absurd each
zip_found {C = C} R f (x ∷ xs) [] zs found each = absurd each
zip_found {C = C} R f (x ∷ xs) (y ∷ ys) [] found each = absurd (nil_isnt _ _ found)
zip_found {C = C} R f (x ∷ xs) (y ∷ ys) (z ∷ zs) found each = (
  each.0 z (sym (heads (Some z) (f y) (map (λ (w : C). Some w) zs) (map f ys) found)),
  zip_found R f xs ys zs (tails (Some z) (f y) (map (λ (w : C). Some w) zs) (map f ys) found) each.1,
)

-- ---- tests

pub or_true : (b : Bool) → (b || true) ≡ true
or_true true = refl
or_true false = refl

pub or_left : (a b : Bool) → (a || b) ≡ false → a ≡ false
or_left true b e = e
or_left false b e = refl

pub or_right : (a b : Bool) → (a || b) ≡ false → b ≡ false
or_right true b e = absurd (true≢false e)
or_right false b e = e

pub or_all : (a b c : Bool) → ((a || b) || c) ≡ (a || (b || (c || false)))
or_all true b c = refl
or_all false true c = refl
or_all false false true = refl
or_all false false false = refl

pub or_none : (b : Bool) → (b || false) ≡ b
or_none true = refl
or_none false = refl

pub zip_then : {A B : Type 0} (R Q : A → B → Type 0) (xs : List A) (ys : List B) → AllZip R xs ys → ((x : A) (y : B) → R x y → Q x y) → AllZip Q xs ys
zip_then R Q [] [] each step = tt
zip_then R Q [] (y ∷ ys) each step = absurd each
zip_then R Q (x ∷ xs) [] each step = absurd each
zip_then R Q (x ∷ xs) (y ∷ ys) each step = (step x y each.0, zip_then R Q xs ys each.1 step)

-- ---- the first ones

pub take_none : {A : Type 0} (xs : List A) → take 0 xs ≡ []
take_none [] = refl
take_none (x ∷ xs) = refl

pub take_all : {A : Type 0} (xs : List A) (k : ℕ) → length xs ≤ k → take k xs ≡ xs
take_all [] zero many = refl
take_all [] (suc k) many = refl
take_all (x ∷ xs) zero many = absurd (omega (arith, many))
take_all (x ∷ xs) (suc k) many = ap (λ l. x ∷ l) (take_all xs k (omega (arith, many)))
