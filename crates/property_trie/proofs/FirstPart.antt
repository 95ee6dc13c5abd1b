-- The first part of a text and its first word, as a reader meets them byte by byte.
use Rattle.std.proofs.Common.{◌≡◌, ◌≢◌, ℕ, eq-eqb, ◌+◌, ◌*◌, ◌<◌, ◌≤◌, true, false, ◌==◌, List, ◌∷◌, take, length, get_or, sym, refl, ap, ◌∙◌, ⊎_elim, arith}
use Rattle.std.specs.Int.{w64, from_le_bytes}
use Rattle.std.proofs.lemmas.Bool.{cases_lt, eqb-true}
use Rattle.std.proofs.lemmas.List.{get_or-take, get_or_past, length-take-le}
use Rattle.std.proofs.lemmas.List.Sums.{position_or_len_is}
use Rattle.serial_value.specs.Words.{text_word}
use Rattle.serial_value.proofs.Packing.{word_from}
use Rattle.property_trie.specs.Parts.{parts_of, parts_behind}
use Rattle.property_trie.proofs.PartsLeft.{part_to_dot}

no_dot : (b : ℕ) → b ≢ 46 → (b == 46) ≡ false
no_dot b other = elim (b == 46) as (λ t. (b == 46) ≡ t → t ≡ false) [
  | true ↦ λ e. absurd (other (eqb-true b 46 e))
  | false ↦ λ e. refl
] refl

-- the part ends at byte n, where a dot or nothing stands, if none of the bytes before is a dot
pub part_ends : (rest : List ℕ) (n : ℕ) → n ≤ length rest → ((i : ℕ) → i < n → get_or rest i 0 ≢ 46) → (n < length rest → get_or rest n 0 ≡ 46)
    → parts_of rest ≡ take n rest ∷ parts_behind n rest
part_ends rest n inside before stop =
    part_to_dot rest n (position_or_len_is (λ b. b == 46) rest n 0 inside (λ i small. no_dot (get_or rest i 0) (before i small)) (λ more. eq-eqb (get_or rest n 0) 46 (stop more)))

-- the word of the bytes before it
pub word_ends : (rest bytes : List ℕ) (n : ℕ) → n ≤ length rest → ((i : ℕ) → i < n → get_or bytes i 0 ≡ get_or rest i 0) → ((i : ℕ) → n ≤ i → get_or bytes i 0 ≡ 0)
    → from_le_bytes w64 bytes ≡ text_word (take n rest) 0
word_ends rest bytes n inside done left =
    let long : length (take n rest) ≡ n = length-take-le n rest inside in
    let same : (i : ℕ) → get_or bytes i 0 ≡ get_or (take n rest) i 0 = λ i.
    ⊎_elim
    (λ (low : i < n). done i low ∙ sym (get_or-take n rest i 0 low))
    (λ (high : n ≤ i). left i high ∙ sym (get_or_past (take n rest) i 0 (omega arith)))
    (cases_lt i n) in
    word_from (take n rest) bytes 0 (λ i small.
    let here : i ≡ 8 * 0 + i = omega arith in
    same i ∙ ap (λ (k : ℕ). get_or (take n rest) k 0) here)
