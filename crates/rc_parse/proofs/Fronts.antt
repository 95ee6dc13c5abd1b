-- The first value of what is left of a list, where a slice pattern or a loop takes it.
use Rattle.std.proofs.Common.{◌≡◌, ℕ, ◌+◌, ◌-◌, ◌<◌, ◌≤◌, List, [], ◌∷◌, length, take, drop, get_or, ap, sym, ◌∙◌, arith}
use Rattle.std.proofs.lemmas.List.{take_rest, drop_more}

front_of : {A : Type 0} (left : List A) (first : A) → 1 ≤ length left → first ≡ get_or left 0 first → left ≡ first ∷ take (length left - 1) (drop 1 left)
front_of [] first some is = absurd (omega arith)
front_of {A} (other ∷ left) first some is =
    ap (λ (x : A). x ∷ left) (sym is) ∙ ap (λ (xs : List A). first ∷ xs) (sym (take_rest (other ∷ left) 1))

-- the same by another spelling of the first value
pub front_as : {A : Type 0} (left : List A) (first same : A) → same ≡ first → 1 ≤ length left → first ≡ get_or left 0 first → left ≡ same ∷ take (length left - 1) (drop 1 left)
front_as {A} left first same e some is = front_of left first some is ∙ ap (λ (x : A). x ∷ take (length left - 1) (drop 1 left)) (sym e)

-- at a turn of a loop
pub front_at : {A : Type 0} (items : List A) (i : ℕ) (item : A) → i < length items → item ≡ get_or items i item → drop i items ≡ item ∷ drop (i + 1) items
front_at {A} items i item inside is = drop_more items i item inside ∙ ap (λ (x : A). x ∷ drop (i + 1) items) (sym is)
