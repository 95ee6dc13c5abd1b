-- The lines before the first header, and those from it on.
use Rattle.std.proofs.Common.{◌≡◌, ℕ, ◌+◌, ◌≤◌, Bool, true, false, not, cond, List, [], ◌∷◌, length, take, drop, refl, sym, ap, ◌∙◌, arith, length-drop}
use Rattle.std.proofs.Math.Numerals.{one-add}
use Rattle.std.proofs.lemmas.Bool.{cond-true, cond-false}
use Rattle.std.proofs.lemmas.List.Sums.{prefix_len-le-length}
use Rattle.std.specs.List.{position_or_len}
use Rattle.rc_tokens.specs.Lines.{Line}
use Rattle.rc_parse.specs.Lines.{sections, is_header, lines_before_header}
use Rattle.rc_parse.specs.internal.Adding.{from_header, section_of}

pub none_before : (line : Line) (lines : List Line) → is_header line ≡ true → lines_before_header (line ∷ lines) ≡ []
none_before line lines is = ap (λ (b : Bool). take (cond (not b) (1 + position_or_len is_header lines) 0) (line ∷ lines)) is

pub one_before : (line : Line) (lines : List Line) → is_header line ≡ false → lines_before_header (line ∷ lines) ≡ line ∷ lines_before_header lines
one_before line lines is =
    ap (λ (b : Bool). take (cond (not b) (1 + position_or_len is_header lines) 0) (line ∷ lines)) is
    ∙ ap (λ (n : ℕ). take n (line ∷ lines)) (one-add (position_or_len is_header lines))

pub all_left : (line : Line) (lines : List Line) → is_header line ≡ true → from_header (line ∷ lines) ≡ line ∷ lines
all_left line lines is = ap (λ (b : Bool). drop (cond (not b) (1 + position_or_len is_header lines) 0) (line ∷ lines)) is

pub others_left : (line : Line) (lines : List Line) → is_header line ≡ false → from_header (line ∷ lines) ≡ from_header lines
others_left line lines is =
    ap (λ (b : Bool). drop (cond (not b) (1 + position_or_len is_header lines) 0) (line ∷ lines)) is
    ∙ ap (λ (n : ℕ). drop n (line ∷ lines)) (one-add (position_or_len is_header lines))

pub one_section : (line : Line) (lines : List Line) → is_header line ≡ true → sections (line ∷ lines) ≡ section_of line (lines_before_header lines) ∷ sections lines
one_section line lines is = cond-true _ _ _ is

no_section : (line : Line) (lines : List Line) → is_header line ≡ false → sections (line ∷ lines) ≡ sections lines
no_section line lines is = cond-false _ _ _ is

-- the lines from the first header on have the same sections
pub same_sections : (lines : List Line) → sections (from_header lines) ≡ sections lines
same_sections [] = refl
same_sections (line ∷ lines) =
    elim (is_header line) as (λ t. is_header line ≡ t → sections (from_header (line ∷ lines)) ≡ sections (line ∷ lines)) [
      | true ↦ λ is. ap sections (all_left line lines is)
      | false ↦ λ isnt. ap sections (others_left line lines isnt) ∙ same_sections lines ∙ sym (no_section line lines isnt)
    ] refl

-- they begin with a header, if there is one
pub headed : (lines : List Line) → from_header (from_header lines) ≡ from_header lines
headed [] = refl
headed (line ∷ lines) =
    elim (is_header line) as (λ t. is_header line ≡ t → from_header (from_header (line ∷ lines)) ≡ from_header (line ∷ lines)) [
      | true ↦ λ is. ap from_header (all_left line lines is)
      | false ↦ λ isnt. ap from_header (others_left line lines isnt) ∙ headed lines ∙ sym (others_left line lines isnt)
    ] refl

pub no_longer : (lines : List Line) → length (from_header lines) ≤ length lines
no_longer lines = omega (arith, length-drop (position_or_len is_header lines) lines)

pub is_first_header : (line : Line) (lines : List Line) → from_header (line ∷ lines) ≡ line ∷ lines → is_header line ≡ true
is_first_header line lines whole =
    elim (is_header line) as (λ t. is_header line ≡ t → t ≡ true) [
      | true ↦ λ is. refl
      | false ↦ λ isnt. absurd (omega (arith, ap length (sym (others_left line lines isnt) ∙ whole), no_longer lines))
    ] refl

pub section_fits : (lines : List Line) → position_or_len is_header lines ≤ length lines
section_fits lines = prefix_len-le-length (λ line. not (is_header line)) lines

-- what was passed and what is left make the whole
abbrev pub IsPassed : List Line → List Line → Type 0
IsPassed lines left =
    (position_or_len is_header lines + length left ≡ length lines + position_or_len is_header left) × (length left ≤ length lines)

-- one line less to look at, which is no header
pub one_passed : (left behind : List Line) (line : Line) → left ≡ line ∷ behind → is_header line ≡ false
    → position_or_len is_header left ≡ 1 + position_or_len is_header behind
one_passed left behind line left_is isnt =
    ap (λ (all : List Line). position_or_len is_header all) left_is
    ∙ ap (λ (b : Bool). cond (not b) (1 + position_or_len is_header behind) 0) isnt

pub none_passed : (left behind : List Line) (line : Line) → left ≡ line ∷ behind → is_header line ≡ true → position_or_len is_header left ≡ 0
none_passed left behind line left_is is =
    ap (λ (all : List Line). position_or_len is_header all) left_is
    ∙ ap (λ (b : Bool). cond (not b) (1 + position_or_len is_header behind) 0) is
