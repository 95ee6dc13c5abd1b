-- What is left of a list in a loop: its front, and what stands behind it.
use Rattle.std.proofs.Common.{◌≡◌, ℕ, suc, ◌+◌, ◌<◌, Bool, true, false, IsTrue, ◌&&◌, List, ◌∷◌, length, get_or, drop, refl, sym, ap, ◌∙◌, subst, drop-cons, add-one}
use Rattle.std.specs.List.{list_all}

pub front_is : {T : Type 0} (ys xs : List T) (i : ℕ) (x : T) → ys ≡ xs → i < length ys → x ≡ get_or ys i x → drop i xs ≡ x ∷ drop (i + 1) xs
front_is ys xs i x same within is =
    let more : i + 1 ≡ suc i = add-one i in
    ap (drop i) (sym same) ∙ drop-cons ys i x within ∙ ap (λ y. y ∷ drop (suc i) ys) (sym is) ∙ ap (λ n. x ∷ drop n ys) (sym more)
    ∙ ap (λ zs. x ∷ drop (i + 1) zs) same

pub both_true : (a b : Bool) → IsTrue (a && b) → IsTrue a × IsTrue b
both_true true b is = (refl, is)
both_true false b is = absurd (cc)

-- the front passes a test that all that is left passes, and so does the rest
pub front_passes : {T : Type 0} (p : T → Bool) (ys xs : List T) (i : ℕ) (x : T) → ys ≡ xs → i < length ys → x ≡ get_or ys i x
    → IsTrue (list_all p (drop i xs)) → IsTrue (p x) × IsTrue (list_all p (drop (i + 1) xs))
front_passes p ys xs i x same within is all =
    both_true (p x) (list_all p (drop (i + 1) xs)) (subst (λ zs. IsTrue (list_all p zs)) (front_is ys xs i x same within is) all)

-- All that is left passes a test where its front does, and all behind it. The test is of something that stays the same.
pub passes_front : {M T : Type 0} (p : M → T → Bool) (m0 m1 : M) (ys xs : List T) (i : ℕ) (x : T) (all : Bool)
    → ys ≡ xs → i < length ys → x ≡ get_or ys i x → m1 ≡ m0 → true ≡ p m1 x
    → list_all (p m0) (drop i xs) ≡ all → list_all (p m0) (drop (i + 1) xs) ≡ all
passes_front p m0 m1 ys xs i x all same within is kept passes all_is =
    let here : p m0 x ≡ true = sym (passes ∙ ap (λ m. p m x) kept) in
    let e : list_all (p m0) (drop i xs) ≡ p m0 x && list_all (p m0) (drop (i + 1) xs) = ap (list_all (p m0)) (front_is ys xs i x same within is) in
    sym (ap (λ b. b && list_all (p m0) (drop (i + 1) xs)) here) ∙ sym e ∙ all_is
