-- The first line of a text.
use Rattle.std.proofs.Common.{◌≡◌, ℕ, suc, ◌+◌, ◌-◌, ◌<◌, Bool, true, false, not, cond, Some, None, List, [], ◌∷◌, length, take, drop, refl, ap, ◌∙◌, arith, position}
use Rattle.std.specs.List.{position_or_len, onto_first}
use Rattle.std.proofs.Math.Seq.{take-length}
use Rattle.std.proofs.lemmas.List.{take_rest, drop_all}
use Rattle.std.proofs.lemmas.List.Sums.{prefix_len-le-length}
use Rattle.init_base.specs.Lines.{is_line_feed, lines_of}

-- ---- places

pub place_is : (p : ℕ → Bool) (xs : List ℕ) (at : ℕ) → position p xs ≡ Some at → (at ≡ position_or_len p xs) × (at < length xs)
place_is p xs at h = grind arith

pub no_place : (p : ℕ → Bool) (xs : List ℕ) → position p xs ≡ None → position_or_len p xs ≡ length xs
no_place p xs h = grind (arith, prefix_len-le-length (λ x. not (p x)) xs)

-- ---- lines

line_more : (b n m : ℕ) (rest : List ℕ) → m ≡ suc n → lines_of rest ≡ take n rest ∷ lines_of (drop (n + 1) rest)
    → onto_first b (lines_of rest) ≡ take m (b ∷ rest) ∷ lines_of (drop (m + 1) (b ∷ rest))
line_more b n m rest same h =
    let next : m + 1 ≡ suc (n + 1) = omega arith in
    rw (next, same) (ap (onto_first b) h)

line_first : (b : ℕ) (rest : List ℕ)
    → lines_of (b ∷ rest) ≡ take (position_or_len is_line_feed (b ∷ rest)) (b ∷ rest) ∷ lines_of (drop (position_or_len is_line_feed (b ∷ rest) + 1) (b ∷ rest))
line_first b [] = elim (is_line_feed b) as (λ v. cond v ([] ∷ []) ((b ∷ []) ∷ []) ≡ take (cond (not v) (1 + 0) 0) (b ∷ []) ∷ lines_of (drop (cond (not v) (1 + 0) 0 + 1) (b ∷ []))) [
  | true ↦ refl
  | false ↦ refl
]
line_first b (c ∷ more) =
    let n : ℕ = position_or_len is_line_feed (c ∷ more) in
    elim (is_line_feed b) as (λ v. cond v ([] ∷ lines_of (c ∷ more)) (onto_first b (lines_of (c ∷ more))) ≡ take (cond (not v) (1 + n) 0) (b ∷ c ∷ more) ∷ lines_of (drop (cond (not v) (1 + n) 0 + 1) (b ∷ c ∷ more))) [
      | true ↦ refl
      | false ↦ line_more b n (1 + n) (c ∷ more) (omega arith) (line_first c more)
    ]

pub line_ends : (bytes : List ℕ) (end : ℕ) → position is_line_feed bytes ≡ Some end
    → lines_of bytes ≡ take end bytes ∷ lines_of (take (length bytes - (end + 1)) (drop (end + 1) bytes))
line_ends [] end h = cc
line_ends (b ∷ rest) end h =
    let is : end ≡ position_or_len is_line_feed (b ∷ rest) = (place_is is_line_feed (b ∷ rest) end h).0 in
    rw (take_rest, is) (line_first b rest)

pub line_open : (bytes : List ℕ) → 0 < length bytes → position is_line_feed bytes ≡ None → lines_of bytes ≡ bytes ∷ []
line_open [] some h = absurd (omega arith)
line_open (b ∷ rest) some h =
    let all : position_or_len is_line_feed (b ∷ rest) ≡ length (b ∷ rest) = no_place is_line_feed (b ∷ rest) h in
    let nothing : drop (length (b ∷ rest) + 1) (b ∷ rest) ≡ [] = drop_all (length (b ∷ rest) + 1) (b ∷ rest) (omega arith) in
    line_first b rest ∙ rw all (rw (take-length, nothing) refl)
