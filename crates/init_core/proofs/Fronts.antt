-- What is left of a list in a loop: its front, and what stands behind it.
use Rattle.std.proofs.Common.{◌≡◌, ℕ, suc, ◌+◌, ◌<◌, ◌≤◌, ◌⊎◌, inl, inr, List, [], ◌∷◌, length, get_or, drop, Some, None, refl, sym, ap, ◌∙◌, drop-cons, add-one, arith}
use Rattle.std.proofs.lemmas.List.{drop_all}
use Rattle.std.proofs.lemmas.Option.{slice_get_cases}
use Rattle.std.specs.List.{slice_get}

pub front_is : {T : Type 0} (ys xs : List T) (i : ℕ) (x : T) → ys ≡ xs → i < length ys → x ≡ get_or ys i x → drop i xs ≡ x ∷ drop (i + 1) xs
front_is ys xs i x same within is =
    let more : i + 1 ≡ suc i = add-one i in
    ap (drop i) (sym same) ∙ drop-cons ys i x within ∙ ap (λ y. y ∷ drop (suc i) ys) (sym is) ∙ ap (λ n. x ∷ drop n ys) (sym more)
    ∙ ap (λ zs. x ∷ drop (i + 1) zs) same

-- the item at a place, and what is left from there on
pub record Front {T : Type 0} (xs : List T) (i : ℕ) : Type 0 where
  pub item : T
  pub is : slice_get xs i ≡ Some item
  pub left : drop i xs ≡ item ∷ drop (i + 1) xs

pub front : {T : Type 0} (xs : List T) (i n : ℕ) → n ≡ length xs → i < n → Front xs i
front {T} xs i n long within = by (slice_get_cases xs i).1
  where
    by : ((x : T) × (i < length xs) × (slice_get xs i ≡ Some x) × (get_or xs i x ≡ x)) ⊎ ((length xs ≤ i) × (slice_get xs i ≡ None)) → Front xs i
    by (inl w) = record { item = w.0; is = w.2; left = front_is xs xs i w.0 refl w.1 (sym w.3) }
    by (inr w) = absurd (omega (arith, w.0))

pub none_left : {T : Type 0} (xs : List T) (i n : ℕ) → n ≡ length xs → n ≤ i → drop i xs ≡ []
none_left xs i n long past = drop_all i xs (omega arith)

pub none_left_of : {T : Type 0} (ys xs : List T) (i : ℕ) → ys ≡ xs → length ys ≤ i → drop i xs ≡ []
none_left_of ys xs i same past = ap (drop i) (sym same) ∙ drop_all i ys past
