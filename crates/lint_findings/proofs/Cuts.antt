-- Bytes cut at the first one of a value.
use Rattle.std.proofs.Common.{◌≡◌, ℕ, ◌+◌, ◌-◌, ◌<◌, true, false, not, ◌==◌, Some, List, [], ◌∷◌, ◌++◌, length, take, drop, get_or, position, refl, ap, sym, ◌∙◌, eq-eqb, arith}
use Rattle.std.specs.List.{position_or_len}
use Rattle.std.proofs.lemmas.Bool.{false≢true, and_parts, eqb-true}
use Rattle.std.proofs.lemmas.List.{take_rest}
use Rattle.std.proofs.lemmas.List.Folds.{list_all-append}
use Rattle.std.proofs.lemmas.List.Sums.{split_at_first, passes_at_first}
use Rattle.init_base.proofs.Lacking.{front_passes}
use Rattle.lint_findings.specs.Baseline.{lacks}

-- a byte isn't another one that is it
is_not : (c b : ℕ) → c ≡ b → not (b == c) ≡ true → ⊥
is_not c b is h = false≢true (sym (ap not (eq-eqb b c (sym is))) ∙ h)

pub cut_some : (c : ℕ) (xs : List ℕ) (at : ℕ) → position (λ b. b == c) xs ≡ Some at
    → (xs ≡ take at xs ++ c ∷ take (length xs - (at + 1)) (drop (at + 1) xs)) × (lacks c (take at xs) ≡ true)
cut_some c xs at h =
    let place : (at ≡ position_or_len (λ b. b == c) xs) × (at < length xs) = grind arith in
    let inside : position_or_len (λ b. b == c) xs < length xs = omega arith in
    let byte : get_or xs (position_or_len (λ b. b == c) xs) 0 ≡ c = eqb-true _ c (passes_at_first (λ b. b == c) xs 0 inside) in
    let whole = split_at_first (λ b. b == c) xs 0 inside in (
      rw (take_rest, place.0) (whole ∙ ap (λ b. take (position_or_len (λ b. b == c) xs) xs ++ b ∷ drop (position_or_len (λ b. b == c) xs + 1) xs) byte),
      rw place.0 (front_passes (λ b. not (b == c)) xs),
    )

-- bytes are cut in one way
pub same_cut : (c : ℕ) (xs ys more rest : List ℕ) → lacks c xs ≡ true → lacks c ys ≡ true → xs ++ c ∷ more ≡ ys ++ c ∷ rest → (xs ≡ ys) × (more ≡ rest)
same_cut c [] [] more rest h i e = (refl, cc e)
same_cut c [] (y ∷ ys) more rest h i e =
    let is : c ≡ y = cc e in
    absurd (is_not c y is (and_parts (not (y == c)) (lacks c ys) i).0)
same_cut c (x ∷ xs) [] more rest h i e =
    let is : c ≡ x = sym (cc e) in
    absurd (is_not c x is (and_parts (not (x == c)) (lacks c xs) h).0)
same_cut c (x ∷ xs) (y ∷ ys) more rest h i e =
    let first : x ≡ y = cc e in
    let tail : xs ++ c ∷ more ≡ ys ++ c ∷ rest = cc e in
    let same = same_cut c xs ys more rest (and_parts (not (x == c)) (lacks c xs) h).1 (and_parts (not (y == c)) (lacks c ys) i).1 tail in
    (cc (first, same.0), same.1)

-- what has the byte doesn't lack it
pub has_it : (c : ℕ) (xs more : List ℕ) → lacks c (xs ++ c ∷ more) ≡ true → ⊥
has_it c xs more h = is_not c c refl (and_parts (not (c == c)) (lacks c more) (and_parts (lacks c xs) (lacks c (c ∷ more)) (sym (list_all-append (λ b. not (b == c)) xs (c ∷ more)) ∙ h)).1).0
