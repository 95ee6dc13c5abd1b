-- The text of lines, each with LF.
use Rattle.std.proofs.Common.{◌≡◌, ℕ, zero, suc, ◌-◌, ◌<◌, ◌≤◌, ◌==◌, Bool, true, false, cond, nat_eq, List, [], ◌∷◌, ◌++◌, length, Some, refl, sym, ap, ◌∙◌, arith, append_assoc, append-nil}
use Rattle.std.specs.List.{ends_with, flat_map, onto_first, slice_get}
use Rattle.std.proofs.lemmas.Bool.{eqb-true}
use Rattle.std.proofs.lemmas.Grind.{common_steps}
use Rattle.std.proofs.Math.Seq.{take-length}
use Rattle.init_base.specs.Lines.{is_line_feed, lines_of}
use Rattle.trace_causes.specs.Lines.{front, with_end}

-- ---- one line more

pub front_more : (lines : List (List ℕ)) (k : ℕ) (line : List ℕ) → slice_get lines k ≡ Some line → front lines (suc k) ≡ front lines k ++ with_end line
front_more [] k line h = cc
front_more (first ∷ lines) zero line h = append-nil (with_end first) ∙ (let same : first ≡ line = cc in ap with_end same)
front_more (first ∷ lines) (suc k) line h =
    ap (λ t. with_end first ++ t) (front_more lines k line h) ∙ sym (append_assoc (with_end first) (front lines k) (with_end line))

-- ---- all lines

onto_front : (b : ℕ) (lines : List (List ℕ)) → 0 < length lines → flat_map with_end (onto_first b lines) ≡ b ∷ flat_map with_end lines
onto_front b [] some = absurd (omega arith)
onto_front b (line ∷ lines) some = refl

onto_some : (b : ℕ) (lines : List (List ℕ)) → 0 < length (onto_first b lines)
onto_some b [] = omega arith
onto_some b (line ∷ lines) = omega arith

lines_some : (b : ℕ) (rest : List ℕ) → 0 < length (lines_of (b ∷ rest))
lines_some b rest = elim (is_line_feed b) as (λ v. 0 < length (cond v ([] ∷ lines_of rest) (onto_first b (lines_of rest)))) [
  | true ↦ omega arith
  | false ↦ onto_some b (lines_of rest)
]

-- a byte more before lines
byte_more : (b : ℕ) (v : Bool) (lines : List (List ℕ)) (text : List ℕ) → (b == 10) ≡ v → 0 < length lines → flat_map with_end lines ≡ text
    → flat_map with_end (cond v ([] ∷ lines) (onto_first b lines)) ≡ b ∷ text
byte_more b true lines text is some h = ap (λ t. 10 ∷ t) h ∙ ap (λ n. n ∷ text) (sym (eqb-true b 10 is))
byte_more b false lines text is some h = onto_front b lines some ∙ ap (λ t. b ∷ t) h

last_whole : (b : ℕ) (v : Bool) → (b == 10) ≡ v → v ≡ true → flat_map with_end (cond v ([] ∷ []) (onto_first b [])) ≡ b ∷ []
last_whole b true is h = ap (λ n. n ∷ []) (sym (eqb-true b 10 is))
last_whole b false is h = cc

last_open : (b : ℕ) (v : Bool) → v ≡ false → flat_map with_end (cond v ([] ∷ []) (onto_first b [])) ≡ b ∷ 10 ∷ []
last_open b true h = cc
last_open b false h = refl

ends_last : (b : ℕ) → ends_with nat_eq (b ∷ []) (10 ∷ []) ≡ (b == 10)
ends_last b = grind (arith, common_steps)

ends_more : (b c : ℕ) (rest : List ℕ) → ends_with nat_eq (b ∷ c ∷ rest) (10 ∷ []) ≡ ends_with nat_eq (c ∷ rest) (10 ∷ [])
ends_more b c rest =
    let longer : suc (suc (length rest)) - 1 ≡ suc (length rest) = omega arith in
    let shorter : suc (length rest) - 1 ≡ length rest = omega arith in
    rw (longer, shorter) refl

-- of a text that ends with LF
whole_lines : (text : List ℕ) → ends_with nat_eq text (10 ∷ []) ≡ true → flat_map with_end (lines_of text) ≡ text
whole_lines [] h = refl
whole_lines (b ∷ []) h = last_whole b (b == 10) refl (sym (ends_last b) ∙ h)
whole_lines (b ∷ c ∷ rest) h =
    byte_more b (b == 10) (lines_of (c ∷ rest)) (c ∷ rest) refl (lines_some c rest) (whole_lines (c ∷ rest) (sym (ends_more b c rest) ∙ h))

-- of another one
open_lines : (text : List ℕ) → 0 < length text → ends_with nat_eq text (10 ∷ []) ≡ false → flat_map with_end (lines_of text) ≡ text ++ 10 ∷ []
open_lines [] some h = absurd (omega arith)
open_lines (b ∷ []) some h = last_open b (b == 10) (sym (ends_last b) ∙ h)
open_lines (b ∷ c ∷ rest) some h =
    byte_more b (b == 10) (lines_of (c ∷ rest)) (c ∷ (rest ++ 10 ∷ [])) refl (lines_some c rest)
    (open_lines (c ∷ rest) (omega arith) (sym (ends_more b c rest) ∙ h))

all_front : (lines : List (List ℕ)) → front lines (length lines) ≡ flat_map with_end lines
all_front lines = ap (flat_map with_end) (take-length lines)

pub whole_front : (text : List ℕ) → ends_with nat_eq text (10 ∷ []) ≡ true → front (lines_of text) (length (lines_of text)) ≡ text
whole_front text h = all_front (lines_of text) ∙ whole_lines text h

pub open_front : (text : List ℕ) → 0 < length text → ends_with nat_eq text (10 ∷ []) ≡ false
    → front (lines_of text) (length (lines_of text)) ≡ text ++ 10 ∷ []
open_front text some h = all_front (lines_of text) ∙ open_lines text some h

-- ---- how many

onto_few : (b : ℕ) (lines : List (List ℕ)) → length (onto_first b lines) ≤ suc (length lines)
onto_few b [] = omega arith
onto_few b (line ∷ lines) = omega arith

pub lines_few : (text : List ℕ) → length (lines_of text) ≤ length text
lines_few [] = omega arith
lines_few (b ∷ text) =
    let fewer = lines_few text in
    elim (is_line_feed b) as (λ v. length (cond v ([] ∷ lines_of text) (onto_first b (lines_of text))) ≤ length (b ∷ text)) [
      | true ↦ omega arith
      | false ↦ omega (arith, onto_few b (lines_of text))
    ]

-- ---- one line of so many

pub front_step : (page line : List ℕ) (lines behind : List (List ℕ)) (left : ℕ) → 0 < left → lines ≡ line ∷ behind
    → ((page ++ line) ++ 10 ∷ []) ++ front behind (left - 1) ≡ page ++ front lines left
front_step page line lines behind zero some e = absurd (omega arith)
front_step page line lines behind (suc k) some e =
    let less : suc k - 1 ≡ k = omega arith in
    ap (λ n. ((page ++ line) ++ 10 ∷ []) ++ front behind n) less
    ∙ (let grouped : ((page ++ line) ++ 10 ∷ []) ++ front behind k ≡ page ++ (with_end line ++ front behind k) = simp append_assoc in grouped)
    ∙ ap (λ ls. page ++ front ls (suc k)) (sym e)
