-- The first word of a line.
use Rattle.std.proofs.Common.{◌≡◌, ℕ, suc, ◌+◌, ◌-◌, ◌<◌, ◌≤◌, Bool, true, false, Some, None, List, [], ◌∷◌, length, take, drop, refl, ap, sym, ◌∙◌, arith, position, filter}
use Rattle.std.specs.List.{position_or_len, onto_first, slice_split}
use Rattle.std.proofs.Math.Seq.{take-length}
use Rattle.std.proofs.lemmas.List.{take_rest, drop_all, length-drop}
use Rattle.init_base.proofs.LineEnds.{no_place, place_is}
use Rattle.prop_contexts.specs.Lines.{is_blank, is_no_blank, is_word, words_of}

-- ---- words

-- the bytes up to the first blank are the first part
abbrev HasFirstPart : List ℕ → Type 0
HasFirstPart xs =
    (tail : List (List ℕ)) × (slice_split is_blank xs ≡ take (position_or_len is_blank xs) xs ∷ tail)
    × (words_of (drop (position_or_len is_blank xs) xs) ≡ filter is_word tail)

part_more : (b : ℕ) (rest : List ℕ) (v : Bool) → is_blank b ≡ v → HasFirstPart rest → HasFirstPart (b ∷ rest)
part_more b rest true e more = (slice_split is_blank rest, rw e refl, rw (e, e) refl)
part_more b rest false e more =
    let one : 1 + position_or_len is_blank rest ≡ suc (position_or_len is_blank rest) = omega arith in
    (more.0, rw (e, one) (ap (onto_first b) more.1), rw (e, one) more.2)

parts_first : (xs : List ℕ) → HasFirstPart xs
parts_first [] = ([], refl, refl)
parts_first (b ∷ rest) = part_more b rest (is_blank b) refl (parts_first rest)

-- a word that begins with a byte that is no blank
pub word_first : (b : ℕ) (rest : List ℕ) → is_blank b ≡ false
    → words_of (b ∷ rest) ≡ take (position_or_len is_blank (b ∷ rest)) (b ∷ rest) ∷ words_of (drop (position_or_len is_blank (b ∷ rest)) (b ∷ rest))
word_first b rest e =
    let more = parts_first rest in
    let one : 1 + position_or_len is_blank rest ≡ suc (position_or_len is_blank rest) = omega arith in
    rw (e, one, more.1, more.2) refl

-- blanks in front say nothing
skip_more : (b : ℕ) (rest : List ℕ) (v : Bool) → is_blank b ≡ v → words_of rest ≡ words_of (drop (position_or_len is_no_blank rest) rest)
    → words_of (b ∷ rest) ≡ words_of (drop (position_or_len is_no_blank (b ∷ rest)) (b ∷ rest))
skip_more b rest true e more =
    let one : 1 + position_or_len is_no_blank rest ≡ suc (position_or_len is_no_blank rest) = omega arith in
    rw (e, one) more
skip_more b rest false e more = rw (e, e) refl

pub blanks_skipped : (line : List ℕ) → words_of line ≡ words_of (drop (position_or_len is_no_blank line) line)
blanks_skipped [] = refl
blanks_skipped (b ∷ rest) = skip_more b rest (is_blank b) refl (blanks_skipped rest)

pub no_words : (line : List ℕ) → position is_no_blank line ≡ None → words_of line ≡ []
no_words line h = blanks_skipped line ∙ ap words_of (ap (λ n. drop n line) (no_place is_no_blank line h) ∙ drop_all (length line) line (omega arith))

-- the first byte of what begins a word
abbrev Begins : List ℕ → Type 0
Begins line = (b : ℕ) × (rest : List ℕ) × (drop (position_or_len is_no_blank line) line ≡ b ∷ rest) × (is_blank b ≡ false)

begin_more : (b : ℕ) (rest : List ℕ) (v : Bool) → is_blank b ≡ v → position_or_len is_no_blank (b ∷ rest) < length (b ∷ rest)
    → (position_or_len is_no_blank rest < length rest → Begins rest) → Begins (b ∷ rest)
begin_more b rest true e h more =
    let one : 1 + position_or_len is_no_blank rest ≡ suc (position_or_len is_no_blank rest) = omega arith in
    let here : 1 + position_or_len is_no_blank rest < suc (length rest) = rw e at h in
    let behind : drop (position_or_len is_no_blank (b ∷ rest)) (b ∷ rest) ≡ drop (position_or_len is_no_blank rest) rest = rw (e, one) refl in
    let found : Begins rest = more (omega arith) in
    (found.0, found.1, behind ∙ found.2, found.3)
begin_more b rest false e h more = (b, rest, rw e refl, e)

begins : (line : List ℕ) → position_or_len is_no_blank line < length line → Begins line
begins [] h = absurd (omega arith)
begins (b ∷ rest) h = begin_more b rest (is_blank b) refl h (begins rest)

-- the word that begins at a place, and what stands behind it
word_at : (line word : List ℕ) (at end : ℕ) → word ≡ drop at line → position is_no_blank line ≡ Some at → end ≡ position_or_len is_blank word
    → (words_of line ≡ take end word ∷ words_of (drop end word)) × (0 < end) × (length word ≤ length line) × (0 < length line)
word_at line word at end there first last =
    let place : (at ≡ position_or_len is_no_blank line) × (at < length line) = place_is is_no_blank line at first in
    let some : position_or_len is_no_blank line < length line = omega arith in
    let begin : Begins line = begins line some in
    let front : drop at line ≡ drop (position_or_len is_no_blank line) line = ap (λ n. drop n line) place.0 in
    let is : word ≡ begin.0 ∷ begin.1 = there ∙ front ∙ begin.2 in
    let whole : words_of line ≡ words_of word = blanks_skipped line ∙ ap words_of (sym front ∙ sym there) in
    let one : words_of word ≡ take (position_or_len is_blank word) word ∷ words_of (drop (position_or_len is_blank word) word) =
    rw is (word_first begin.0 begin.1 begin.3) in
    let long : 0 < position_or_len is_blank word = rw (is, begin.3) (omega arith) in
    (whole ∙ rw last one, omega arith, omega (arith, ap length there, length-drop at line), omega arith)

pub word_ends : (line word : List ℕ) (at end : ℕ) → word ≡ drop at line → position is_no_blank line ≡ Some at → position is_blank word ≡ Some end
    → (words_of line ≡ take end word ∷ words_of (take (length word - end) (drop end word))) × (length (take (length word - end) (drop end word)) < length line)
word_ends line word at end there first last =
    let place : (end ≡ position_or_len is_blank word) × (end < length word) = place_is is_blank word end last in
    let found = word_at line word at end there first place.0 in
    simp take_rest (found.0, omega (arith, length-drop end word, found.1, found.2))

pub word_open : (line word : List ℕ) (at : ℕ) → word ≡ drop at line → position is_no_blank line ≡ Some at → position is_blank word ≡ None
    → (words_of line ≡ word ∷ []) × (0 < length line)
word_open line word at there first last =
    let all : position_or_len is_blank word ≡ length word = no_place is_blank word last in
    let found = word_at line word at (length word) there first (sym all) in
    (found.0 ∙ rw (take-length, drop_all (length word) word (omega arith)) refl, found.3)
