-- Bytes in parts at a byte.
use Rattle.std.proofs.Common.{◌≡◌, ℕ, ◌+◌, ◌-◌, ◌<◌, Bool, true, false, not, ◌==◌, Some, None, List, [], ◌∷◌, ◌++◌, length, take, drop, get_or, position, refl, ap, ◌∙◌, eq-eqb, arith}
use Rattle.std.specs.List.{list_all, position_or_len}
use Rattle.std.proofs.lemmas.Bool.{false≢true, and_parts, eqb-true}
use Rattle.std.proofs.lemmas.List.{take_rest}
use Rattle.std.proofs.lemmas.List.Splits.{length-slice_split, slice_split_first}
use Rattle.std.proofs.lemmas.List.Sums.{passes_at_first, split_at_first}
use Rattle.init_base.proofs.Lacking.{lacks_unplaced}
use Rattle.persist_file.specs.Causes.{parts_at, three_words}

-- none of the bytes is this one
abbrev pub lacks : ℕ → List ℕ → Bool
lacks byte bytes = list_all (λ b. not (b == byte)) bytes

not_true : (b : Bool) → not b ≡ true → b ≡ false
not_true true h = absurd (false≢true h)
not_true false h = refl

pub parts_none : (c : ℕ) (xs : List ℕ) → lacks c xs ≡ true → parts_at c xs ≡ xs ∷ []
parts_none c [] h = refl
parts_none c (x ∷ xs) h =
    let parts = and_parts (not (x == c)) (lacks c xs) h in
    rw (not_true (x == c) parts.0, parts_none c xs parts.1) refl

-- the first part, and those of what stands behind
pub parts_first : (c : ℕ) (xs more : List ℕ) → lacks c xs ≡ true → parts_at c (xs ++ c ∷ more) ≡ xs ∷ parts_at c more
parts_first c [] more h = rw (eq-eqb c c refl) refl
parts_first c (x ∷ xs) more h =
    let parts = and_parts (not (x == c)) (lacks c xs) h in
    rw (not_true (x == c) parts.0, parts_first c xs more parts.1) refl

pub some_parts : (c : ℕ) (xs : List ℕ) → parts_at c xs ≡ [] → ⊥
some_parts c xs h = omega (arith, ap length h, length-slice_split (λ b. b == c) xs)

pub none_at : (c : ℕ) (xs : List ℕ) → position (λ b. b == c) xs ≡ None → parts_at c xs ≡ xs ∷ []
none_at c xs h = parts_none c xs (lacks_unplaced c xs h)

pub some_at : (c : ℕ) (xs : List ℕ) (at : ℕ) → position (λ b. b == c) xs ≡ Some at
    → parts_at c xs ≡ take at xs ∷ parts_at c (take (length xs - (at + 1)) (drop (at + 1) xs))
some_at c xs at h =
    let place : (at ≡ position_or_len (λ b. b == c) xs) × (at < length xs) = grind arith in
    let inside : position_or_len (λ b. b == c) xs < length xs = omega arith in
    rw (take_rest, place.0) (slice_split_first (λ b. b == c) xs 0 inside)

-- bytes up to a byte, and those behind
pub cut_at : (c : ℕ) (xs : List ℕ) (at : ℕ) → position (λ b. b == c) xs ≡ Some at → xs ≡ take at xs ++ c ∷ drop (at + 1) xs
cut_at c xs at h =
    let place : (at ≡ position_or_len (λ b. b == c) xs) × (at < length xs) = grind arith in
    let inside : position_or_len (λ b. b == c) xs < length xs = omega arith in
    let byte : get_or xs (position_or_len (λ b. b == c) xs) 0 ≡ c = eqb-true _ c (passes_at_first (λ b. b == c) xs 0 inside) in
    rw place.0 (split_at_first (λ b. b == c) xs 0 inside ∙ ap (λ b. take (position_or_len (λ b. b == c) xs) xs ++ b ∷ drop (position_or_len (λ b. b == c) xs + 1) xs) byte)

-- a space stands behind the value
pub more_words : (name kind value first behind : List ℕ) → parts_at 32 value ≡ first ∷ parts_at 32 behind → three_words name kind (parts_at 32 value) ≡ None
more_words name kind value first behind h = ap (three_words name kind) h ∙ by (parts_at 32 behind) (some_parts 32 behind)
  where
    by : (parts : List (List ℕ)) → (parts ≡ [] → ⊥) → three_words name kind (first ∷ parts) ≡ None
    by [] some = absurd (some refl)
    by (next ∷ more) some = refl
