-- Lists read by `get_elem?`.
use Rattle.std.proofs.Common.{◌≡◌, ℕ, zero, suc, ◌<◌, ◌⊎◌, List, [], ◌∷◌, ◌++◌, length, take, sym, refl, ap, inl, inr, ⊎_elim, ◌∙◌, arith}
use mathlib.Core.Option.{some, some-injective, some-ne-none}
use lib.ListN.{get_elem?}

module _ {A : Type 0} where
  pub at_below : (l : List A) (i : ℕ) (a : A) → get_elem? l i ≡ some a → i < length l
  at_below [] i a e = absurd (some-ne-none a (sym e))
  at_below (x ∷ xs) zero a e = omega arith
  at_below (x ∷ xs) (suc i) a e = let h = at_below xs i a e in omega arith

  pub at_shorter : (l m : List A) (i : ℕ) (a : A) → i < length l → get_elem? (l ++ m) i ≡ some a → get_elem? l i ≡ some a
  at_shorter [] m i a h e = absurd (omega arith)
  at_shorter (x ∷ xs) m zero a h e = e
  at_shorter (x ∷ xs) m (suc i) a h e = at_shorter xs m i a (omega arith) e

  -- the first n elements
  pub at_take : (l : List A) (n i : ℕ) (a : A) → i < n → get_elem? l i ≡ some a → get_elem? (take n l) i ≡ some a
  at_take l zero i a h e = absurd (omega arith)
  at_take [] (suc n) i a h e = e
  at_take (x ∷ xs) (suc n) zero a h e = e
  at_take (x ∷ xs) (suc n) (suc i) a h e = at_take xs n i a (omega arith) e

  pub at_taken : (l : List A) (n i : ℕ) (a : A) → get_elem? (take n l) i ≡ some a → get_elem? l i ≡ some a
  at_taken [] zero i a e = absurd (some-ne-none a (sym e))
  at_taken [] (suc n) i a e = e
  at_taken (x ∷ xs) zero i a e = absurd (some-ne-none a (sym e))
  at_taken (x ∷ xs) (suc n) zero a e = e
  at_taken (x ∷ xs) (suc n) (suc i) a e = at_taken xs n i a e

  -- an element of a list with one more is one of the list's, or the new one at its end
  pub at_end : (l : List A) (a b : A) (j : ℕ) → get_elem? (l ++ a ∷ []) j ≡ some b → (get_elem? l j ≡ some b) ⊎ ((j ≡ length l) × (a ≡ b))
  at_end [] a b zero e = inr (refl, some-injective a b e)
  at_end [] a b (suc j) e = absurd (some-ne-none b (sym e))
  at_end (x ∷ xs) a b zero e = inl e
  at_end (x ∷ xs) a b (suc j) e = ⊎_elim (λ t. inl t) (λ t. inr (ap suc t.0, t.1)) (at_end xs a b j e)

  pub same_at : (l : List A) (i j : ℕ) (a b : A) → i ≡ j → get_elem? l i ≡ some a → get_elem? l j ≡ some b → a ≡ b
  same_at l i j a b same e f = some-injective a b (sym e ∙ (ap (get_elem? l) same ∙ f))

  pub at_there : (l : List A) (i : ℕ) → i < length l → (a : A) × (get_elem? l i ≡ some a)
  at_there [] i h = absurd (omega arith)
  at_there (x ∷ xs) zero h = (x, refl)
  at_there (x ∷ xs) (suc i) h = at_there xs i (omega arith)
