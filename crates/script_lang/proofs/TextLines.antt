-- The first line of a text, and what stands behind it.
use Rattle.std.proofs.Common.{◌≡◌, ◌≢◌, ℕ, suc, ◌+◌, ◌-◌, ◌<◌, ◌≤◌, true, false, List, [], ◌∷◌, length, take, drop, Some, None, refl, sym, ap, ◌∙◌, arith, add-one, length-drop}
use Rattle.std.specs.List.{position_or_len, onto_first}
use Rattle.std.proofs.Math.Seq.{take-length}
use Rattle.std.proofs.lemmas.Bool.{false_from_ne_true}
use Rattle.std.proofs.lemmas.List.Sums.{position_or_len_is}
use Rattle.memchr.specs.Find.{IsFirstByte, is_byte}
use Rattle.script_lang.specs.Lines.{is_line_feed, lines_of}

-- the place of the first LF
abbrev end_of : List ℕ → ℕ
end_of bytes = position_or_len is_line_feed bytes

end_behind : (b : ℕ) (rest : List ℕ) → is_line_feed b ≡ false → end_of (b ∷ rest) ≡ suc (end_of rest)
end_behind b rest other = rw other (omega arith)

end_here : (b : ℕ) (rest : List ℕ) → is_line_feed b ≡ true → end_of (b ∷ rest) ≡ 0
end_here b rest feed = rw feed refl

lines_behind : (b : ℕ) (rest : List ℕ) → is_line_feed b ≡ false → lines_of (b ∷ rest) ≡ onto_first b (lines_of rest)
lines_behind b rest other = rw other refl

lines_cut : (bytes : List ℕ) → end_of bytes < length bytes → lines_of bytes ≡ take (end_of bytes) bytes ∷ lines_of (drop (suc (end_of bytes)) bytes)
lines_cut [] low = absurd (omega arith)
lines_cut (b ∷ rest) low =
    elim (is_line_feed b) as (λ t. is_line_feed b ≡ t → lines_of (b ∷ rest) ≡ take (end_of (b ∷ rest)) (b ∷ rest) ∷ lines_of (drop (suc (end_of (b ∷ rest))) (b ∷ rest))) [
      | true ↦ λ feed.
          let here : lines_of (b ∷ rest) ≡ [] ∷ lines_of rest = rw feed refl in
          here ∙ ap (λ n. take n (b ∷ rest) ∷ lines_of (drop (suc n) (b ∷ rest))) (sym (end_here b rest feed))
      | false ↦ λ other.
          let within : end_of rest < length rest = omega (arith, end_behind b rest other, low) in
          lines_behind b rest other ∙ ap (onto_first b) (lines_cut rest within)
          ∙ ap (λ n. take n (b ∷ rest) ∷ lines_of (drop (suc n) (b ∷ rest))) (sym (end_behind b rest other))
    ] refl

no_feed : (b : ℕ) (rest : List ℕ) → length (b ∷ rest) ≤ end_of (b ∷ rest) → is_line_feed b ≡ false
no_feed b rest high =
    elim (is_line_feed b) as (λ t. is_line_feed b ≡ t → t ≡ false) [
      | true ↦ λ feed. absurd (omega (arith, end_here b rest feed, high))
      | false ↦ λ other. refl
    ] refl

lines_whole : (b : ℕ) (rest : List ℕ) → length (b ∷ rest) ≤ end_of (b ∷ rest) → lines_of (b ∷ rest) ≡ (b ∷ rest) ∷ []
lines_whole b [] high = lines_behind b [] (no_feed b [] high)
lines_whole b (c ∷ rest) high =
    let other : is_line_feed b ≡ false = no_feed b (c ∷ rest) high in
    let past : length (c ∷ rest) ≤ end_of (c ∷ rest) = omega (arith, end_behind b (c ∷ rest) other, high) in
    lines_behind b (c ∷ rest) other ∙ ap (onto_first b) (lines_whole c rest past)

-- as `memchr` tells of the first LF

pub first_line_cut : (bytes : List ℕ) (k : ℕ) → IsFirstByte (is_byte 10) bytes (Some k)
    → lines_of bytes ≡ take k bytes ∷ lines_of (take (length bytes - (k + 1)) (drop (k + 1) bytes))
first_line_cut bytes k first =
    let within : k < length bytes = first.0.high in
    let place : end_of bytes ≡ k =
    position_or_len_is is_line_feed bytes k 0 (omega arith) (λ i low. false_from_ne_true _ (first.0.before i (omega arith) low)) (λ low. first.1) in
    let rest : take (length bytes - (k + 1)) (drop (k + 1) bytes) ≡ drop (suc k) bytes =
    ap (λ n. take n (drop (k + 1) bytes)) (sym (length-drop (k + 1) bytes)) ∙ take-length (drop (k + 1) bytes) ∙ ap (λ n. drop n bytes) (add-one k) in
    lines_cut bytes (omega (arith, place, within)) ∙ ap (λ n. take n bytes ∷ lines_of (drop (suc n) bytes)) place
    ∙ ap (λ r. take k bytes ∷ lines_of r) (sym rest)

pub only_line : (bytes : List ℕ) → bytes ≢ [] → IsFirstByte (is_byte 10) bytes None → lines_of bytes ≡ bytes ∷ []
only_line [] some none = absurd (some refl)
only_line (b ∷ rest) some none =
    let place : end_of (b ∷ rest) ≡ length (b ∷ rest) =
    position_or_len_is is_line_feed (b ∷ rest) (length (b ∷ rest)) 0 (omega arith) (λ i low. false_from_ne_true _ (none i (omega arith) low)) (λ low. absurd (omega arith)) in
    lines_whole b rest (omega (arith, place))
