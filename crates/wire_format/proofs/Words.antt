-- Words within bytes.
use Rattle.std.proofs.Common.{◌≡◌, ℕ, ◌+◌, ◌≤◌, List, [], ◌∷◌, ◌++◌, get_or, take, drop, length, slice_range, ◌-◌, refl, ap, sym, ◌∙◌, inl, inr, arith}
use Rattle.std.proofs.lemmas.Bool.{cases_lt}
use Rattle.std.proofs.lemmas.List.{drop_more, drop-append-le, take-append-le, length-drop}
use Rattle.std.specs.Int.{w32, from_le_bytes}
use Rattle.wire_format.specs.Format.{word_from}

-- bytes that are added behind a part leave it
pub range_stays : (bytes more : List ℕ) (from to : ℕ) → to ≤ length bytes → slice_range (bytes ++ more) from to ≡ slice_range bytes from to
range_stays bytes more from to there = elim (cases_lt to from) [
  | inl past ↦ (let none : to - from ≡ 0 = omega arith in rw none refl)
  | inr within ↦
      (let inner : to - from ≤ length (drop from bytes) = omega (arith, length-drop from bytes) in
      ap (λ (l : List ℕ). take (to - from) l) (drop-append-le from bytes more (omega arith)) ∙ take-append-le (to - from) (drop from bytes) more inner)
]

-- four bytes from a place on
pub four_bytes : (bytes : List ℕ) (at : ℕ) → at + 4 ≤ length bytes
    → get_or bytes at 0 ∷ (get_or bytes (at + 1) 0 ∷ (get_or bytes (at + 2) 0 ∷ (get_or bytes (at + 3) 0 ∷ []))) ≡ slice_range bytes at (at + 4)
four_bytes bytes at there =
    let count : (at + 4) - at ≡ 4 = omega arith in
    let two : at + 1 + 1 ≡ at + 2 = omega arith in
    let three : at + 2 + 1 ≡ at + 3 = omega arith in
    let d0 : drop at bytes ≡ get_or bytes at 0 ∷ drop (at + 1) bytes = drop_more bytes at 0 (omega arith) in
    let d1 : drop (at + 1) bytes ≡ get_or bytes (at + 1) 0 ∷ drop (at + 2) bytes = drop_more bytes (at + 1) 0 (omega arith) ∙ ap (λ n. get_or bytes (at + 1) 0 ∷ drop n bytes) two in
    let d2 : drop (at + 2) bytes ≡ get_or bytes (at + 2) 0 ∷ drop (at + 3) bytes = drop_more bytes (at + 2) 0 (omega arith) ∙ ap (λ n. get_or bytes (at + 2) 0 ∷ drop n bytes) three in
    let d3 : drop (at + 3) bytes ≡ get_or bytes (at + 3) 0 ∷ drop (at + 3 + 1) bytes = drop_more bytes (at + 3) 0 (omega arith) in
    sym (ap (λ n. take n (drop at bytes)) count ∙ ap (λ (l : List ℕ). take 4 l) (d0
    ∙ ap (λ (l : List ℕ). get_or bytes at 0 ∷ l) (d1
    ∙ ap (λ (l : List ℕ). get_or bytes (at + 1) 0 ∷ l) (d2
    ∙ ap (λ (l : List ℕ). get_or bytes (at + 2) 0 ∷ l) d3))))

-- bytes that are added behind a word leave it
pub word_stays : (bytes more : List ℕ) (at : ℕ) → at + 4 ≤ length bytes → word_from (bytes ++ more) at ≡ word_from bytes at
unfolding word_from
word_stays bytes more at there = ap (λ l. from_le_bytes w32 l) (range_stays bytes more at (at + 4) there)
