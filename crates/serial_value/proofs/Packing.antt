-- A value's words give its bytes back.
use Rattle.std.proofs.Common.{◌≡◌, ℕ, zero, suc, ◌+◌, ◌*◌, ◌<◌, ◌≤◌, List, [], ◌∷◌, length, get_or, drop, arith, ap, sym, refl, ◌∙◌}
use Rattle.std.specs.Int.{w64, from_le_bytes, to_le_bytes}
use Rattle.std.proofs.lemmas.Nat.{le_bytes_8}
use Rattle.std.proofs.lemmas.List.{drop_all, get_or-drop}
use Rattle.serial_value.specs.Words.{text_word}

-- eight bytes, with 0 past the end
abbrev eight : List ℕ → List ℕ
eight bs = get_or bs 0 0 ∷ get_or bs 1 0 ∷ get_or bs 2 0 ∷ get_or bs 3 0 ∷ get_or bs 4 0 ∷ get_or bs 5 0 ∷ get_or bs 6 0 ∷ get_or bs 7 0 ∷ []

eight_same : (bs : List ℕ) → from_le_bytes w64 bs ≡ from_le_bytes w64 (eight bs)
eight_same bs = refl

-- a word is read from eight bytes
pub word_of_eight : (xs ys : List ℕ) → ((i : ℕ) → i < 8 → get_or xs i 0 ≡ get_or ys i 0) → from_le_bytes w64 xs ≡ from_le_bytes w64 ys
word_of_eight xs ys same =
    let e0 = same 0 (omega arith) in let e1 = same 1 (omega arith) in let e2 = same 2 (omega arith) in let e3 = same 3 (omega arith) in
    let e4 = same 4 (omega arith) in let e5 = same 5 (omega arith) in let e6 = same 6 (omega arith) in let e7 = same 7 (omega arith) in
    let eights : eight xs ≡ eight ys = cc in
    eight_same xs ∙ (ap (from_le_bytes w64) eights ∙ sym (eight_same ys))

-- the word that was put together from a value's bytes
pub word_from : (value bytes : List ℕ) (k : ℕ) → ((i : ℕ) → i < 8 → get_or bytes i 0 ≡ get_or value (8 * k + i) 0) → from_le_bytes w64 bytes ≡ text_word value k
unfolding text_word
word_from value bytes k same = word_of_eight bytes (drop (8 * k) value) (λ i small. same i small ∙ sym (get_or-drop (8 * k) value i 0))

-- a word past the end
pub word_past : (text : List ℕ) (k : ℕ) → length text ≤ 8 * k → 0 ≡ text_word text k
unfolding text_word
word_past text k past = ap (from_le_bytes w64) (sym (drop_all (8 * k) text past))

-- the eight bytes of a word that is inside
pub word_whole : (text : List ℕ) (k : ℕ) → from_le_bytes w64 (get_or text (8 * k) 0 ∷ get_or text (8 * k + 1) 0 ∷ get_or text (8 * k + 2) 0 ∷ get_or text (8 * k + 3) 0 ∷ get_or text (8 * k + 4) 0 ∷ get_or text (8 * k + 5) 0 ∷ get_or text (8 * k + 6) 0 ∷ get_or text (8 * k + 7) 0 ∷ []) ≡ text_word text k
unfolding text_word
word_whole text k =
    let bs = drop (8 * k) text in
    let none_more : 8 * k + 0 ≡ 8 * k = omega arith in
    let e0 : get_or bs 0 0 ≡ get_or text (8 * k) 0 = get_or-drop (8 * k) text 0 0 ∙ ap (λ (n : ℕ). get_or text n 0) none_more in
    let e1 = get_or-drop (8 * k) text 1 0 in let e2 = get_or-drop (8 * k) text 2 0 in let e3 = get_or-drop (8 * k) text 3 0 in
    let e4 = get_or-drop (8 * k) text 4 0 in let e5 = get_or-drop (8 * k) text 5 0 in let e6 = get_or-drop (8 * k) text 6 0 in
    let e7 = get_or-drop (8 * k) text 7 0 in
    let eights : eight bs ≡ get_or text (8 * k) 0 ∷ get_or text (8 * k + 1) 0 ∷ get_or text (8 * k + 2) 0 ∷ get_or text (8 * k + 3) 0 ∷ get_or text (8 * k + 4) 0 ∷ get_or text (8 * k + 5) 0 ∷ get_or text (8 * k + 6) 0 ∷ get_or text (8 * k + 7) 0 ∷ [] = cc in
    ap (from_le_bytes w64) (sym eights) ∙ sym (eight_same bs)

eight_at : (bs : List ℕ) (j : ℕ) → j < 8 → get_or (eight bs) j 0 ≡ get_or bs j 0
eight_at bs zero small = refl
eight_at bs (suc zero) small = refl
eight_at bs (suc (suc zero)) small = refl
eight_at bs (suc (suc (suc zero))) small = refl
eight_at bs (suc (suc (suc (suc zero)))) small = refl
eight_at bs (suc (suc (suc (suc (suc zero))))) small = refl
eight_at bs (suc (suc (suc (suc (suc (suc zero)))))) small = refl
eight_at bs (suc (suc (suc (suc (suc (suc (suc zero))))))) small = refl
eight_at bs (suc (suc (suc (suc (suc (suc (suc (suc j)))))))) small = absurd (omega arith)

eight_within : (bs : List ℕ) → ((i : ℕ) → get_or bs i 0 < 256) → (j : ℕ) → get_or (eight bs) j 0 < 256
eight_within bs within zero = within 0
eight_within bs within (suc zero) = within 1
eight_within bs within (suc (suc zero)) = within 2
eight_within bs within (suc (suc (suc zero))) = within 3
eight_within bs within (suc (suc (suc (suc zero)))) = within 4
eight_within bs within (suc (suc (suc (suc (suc zero))))) = within 5
eight_within bs within (suc (suc (suc (suc (suc (suc zero)))))) = within 6
eight_within bs within (suc (suc (suc (suc (suc (suc (suc zero))))))) = within 7
eight_within bs within (suc (suc (suc (suc (suc (suc (suc (suc j)))))))) = omega arith

-- byte j of a value's word k
pub byte_of : (value : List ℕ) (word k j : ℕ) → ((i : ℕ) → get_or value i 0 < 256) → word ≡ text_word value k → j < 8
    → get_or (to_le_bytes w64 word) j 0 ≡ get_or value (8 * k + j) 0
unfolding text_word
byte_of value word k j within is small =
    let bs = drop (8 * k) value in
    let inside : (i : ℕ) → get_or bs i 0 < 256 = λ i. rw (get_or-drop (8 * k) value i 0) (within (8 * k + i)) in
    ap (λ (xs : List ℕ). get_or xs j 0) (le_bytes_8 (eight bs) word refl (eight_within bs inside) (is ∙ eight_same bs))
    ∙ (eight_at bs j small ∙ get_or-drop (8 * k) value j 0)
