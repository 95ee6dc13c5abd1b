-- The blanks at the end of a text.
use Rattle.std.proofs.Common.{◌≡◌, ℕ, ◌-◌, ◌+◌, ◌≤◌, Bool, true, false, ◌&&◌, List, [], ◌∷◌, ◌++◌, length, take, slice_index, refl, sym, ap, ◌∙◌, arith}
use Rattle.std.specs.List.{list_all}
use Rattle.std.proofs.lemmas.List.{take_more, take_all}
use Rattle.std.proofs.lemmas.List.Folds.{list_all-append}
use Rattle.prop_rules.specs.Build.{is_blank, without_last_blanks}

both : (a : Bool) → (a && (true && true)) ≡ a
both true = refl
both false = refl

neither : (a : Bool) → (a && (false && true)) ≡ false
neither true = refl
neither false = refl

blank_more : (xs : List ℕ) (b : ℕ) → is_blank b ≡ true → without_last_blanks (xs ++ b ∷ []) ≡ without_last_blanks xs
blank_more [] b e = rw e refl
blank_more (x ∷ xs) b e =
    let all : list_all is_blank (x ∷ (xs ++ b ∷ [])) ≡ list_all is_blank (x ∷ xs) = list_all-append is_blank (x ∷ xs) (b ∷ []) ∙ rw e (both (list_all is_blank (x ∷ xs))) in
    rw (all, blank_more xs b e) refl

other_more : (xs : List ℕ) (b : ℕ) → is_blank b ≡ false → without_last_blanks (xs ++ b ∷ []) ≡ xs ++ b ∷ []
other_more [] b e = rw e refl
other_more (x ∷ xs) b e =
    let some : list_all is_blank (x ∷ (xs ++ b ∷ [])) ≡ false = list_all-append is_blank (x ∷ xs) (b ∷ []) ∙ rw e (neither (list_all is_blank (x ∷ xs))) in
    rw (some, other_more xs b e) refl

-- a list that isn't empty ends with its last element
whole : (xs : List ℕ) → 1 ≤ length xs → xs ≡ take (length xs - 1) xs ++ slice_index xs (length xs - 1) ∷ []
whole xs some =
    let all : length xs ≡ (length xs - 1) + 1 = omega arith in
    sym (take_all (length xs) xs (omega arith)) ∙ ap (λ n. take n xs) all ∙ take_more xs (length xs - 1) 0 (omega arith)

pub blank_last : (xs : List ℕ) → 1 ≤ length xs → is_blank (slice_index xs (length xs - 1)) ≡ true
    → without_last_blanks (take (length xs - 1) xs) ≡ without_last_blanks xs
blank_last xs some e = sym (ap without_last_blanks (whole xs some) ∙ blank_more (take (length xs - 1) xs) (slice_index xs (length xs - 1)) e)

pub other_last : (xs : List ℕ) → 1 ≤ length xs → is_blank (slice_index xs (length xs - 1)) ≡ false → without_last_blanks xs ≡ xs
other_last xs some e =
    ap without_last_blanks (whole xs some) ∙ other_more (take (length xs - 1) xs) (slice_index xs (length xs - 1)) e ∙ sym (whole xs some)
