-- Each line of the contexts text that its reader refuses has a cause.
use Rattle.std.proofs.Common.{◌≡◌, ℕ, ◌-◌, ◌==◌, Bool, true, false, cond, not, ◌&&◌, IsTrue, List, [], ◌∷◌, ◌++◌, length, drop, is_some, Option, Some, None, refl, sym, ap, ◌∙◌, arith, slice_get, MatchOption, subst, eq-eqb, inl, inr, option_map}
use Rattle.std.specs.List.{list_any, onto_first}
use Rattle.std.proofs.Math.Seq.{take-append_seam}
use Rattle.std.proofs.lemmas.Bool.{false_from_ne_true}
use Rattle.std.proofs.lemmas.Option.{slice_get_past}
use Rattle.prop_contexts.specs.Contexts.{ScopedLine, default_contexts, kind_of, line_with, reading_of, reading_of_words, type_of}
use Rattle.prop_contexts.specs.Given.{given_by, has_line, with_line, Takes}
use Rattle.prop_contexts.specs.Grammar.{contexts_fit, HasNoDefault, IsFirstUnfit}
use Rattle.init_base.specs.Lines.{is_line_feed, lines_of}
use Rattle.prop_contexts.specs.Lines.{is_comment, words_of}
use Rattle.prop_contexts.specs.declared.line.Reading.{Reading}
use Rattle.prop_contexts.specs.declared.line.Reading.TheVariants.{Skipped, Bad, Read}
use Rattle.prop_contexts.proofs.Steps.{fits_of, takes}
use Rattle.script_lang.specs.Lines.{lines_of as script_lines}
use Rattle.refusal_causes.specs.Contexts.{IsBadContexts, IsContextCause, cause_in, context_line_cause, is_default_line, is_exact, is_same_line, named_cause, numbered_context_cause, tail_cause, twice_cause, words_cause}
use Rattle.refusal_causes.specs.Misfits.{line_number}
use Rattle.refusal_causes.specs.declared.policy.cause.ContextCause.{ContextCause}
use Rattle.refusal_causes.specs.declared.policy.cause.ContextCause.TheVariants as cause
use Rattle.refusal_causes.proofs.ContextLines.{any_context, any_default, bad_has_cause, earlier_same, read_line}
use Rattle.refusal_causes.proofs.ScriptCauses.{get_seam}
use Rattle.refusal_causes.proofs.ScriptMisfits.{found, some_left, some_right}

-- the lines of scripts and of policies are the same
pub same_lines : (bytes : List ℕ) → script_lines bytes ≡ lines_of bytes
same_lines [] = refl
same_lines (b ∷ rest) = ap (λ later. cond (is_line_feed b) ([] ∷ later) (onto_first b later)) (same_lines rest)

-- ---- one line

bad_words : (front words : List (List ℕ)) → reading_of_words words ≡ Bad → is_some (words_cause front words) ≡ true
bad_words front [] e = cc
bad_words front (name ∷ []) e =
    elim (is_comment name) as (λ t. cond {A = Reading ScopedLine} t Skipped Bad ≡ Bad → is_some (cond t None (named_cause front name [])) ≡ true) [
      | true ↦ λ h. cc
      | false ↦ λ h. refl
    ] e
bad_words front (name ∷ label ∷ tail) e =
    elim (is_comment name) as (λ t. cond {A = Reading ScopedLine} t Skipped (line_with name label (kind_of tail) (type_of (drop 1 tail))) ≡ Bad → is_some (cond t None (named_cause front name (label ∷ tail))) ≡ true) [
      | true ↦ λ h. cc
      | false ↦ λ h. some_left (tail_cause tail) (twice_cause front name (is_exact tail)) (bad_has_cause name label tail h)
    ] e

twice : (front : List (List ℕ)) (name : List ℕ) (exact : Bool) → list_any (is_same_line name exact) front ≡ true → is_some (twice_cause front name exact) ≡ true
twice front name exact h = ap (λ o. is_some (option_map (cause.Twice name) (option_map line_number o))) (found (is_same_line name exact) front h)

read_unfit : (front : List (List ℕ)) (line : List ℕ) (l : ScopedLine) → reading_of line ≡ Read l → IsTrue (contexts_fit front) → contexts_fit (front ++ line ∷ []) ≡ false
    → is_some (context_line_cause front line) ≡ true
read_unfit front line l e fit unfit =
    elim (has_line (given_by front) l) as (λ t. has_line (given_by front) l ≡ t → is_some (context_line_cause front line) ≡ true) [
      | true ↦ λ has.
          let read = read_line (words_of line) l e in
          ap (λ ws. is_some (words_cause front ws)) read.words_are
          ∙ ap (λ t. is_some (cond t None (named_cause front l.line.name (read.label ∷ read.tail)))) read.no_comment
          ∙ some_right (tail_cause read.tail) (twice_cause front l.line.name (is_exact read.tail))
          (twice front l.line.name (is_exact read.tail) (earlier_same front l.line.name (is_exact read.tail) l.scope read.scope_is has))
      | false ↦ λ fresh.
          let fits = takes front line (with_line (given_by front) l) fit (subst (λ r. Takes (given_by front) r (with_line (given_by front) l)) (sym e) (fresh, refl)) in
          let is : contexts_fit (front ++ line ∷ []) ≡ true = fits.0 in
          cc
    ] refl

by_reading : (front : List (List ℕ)) (line : List ℕ) (r : Reading ScopedLine) → reading_of line ≡ r → IsTrue (contexts_fit front) → contexts_fit (front ++ line ∷ []) ≡ false
    → is_some (context_line_cause front line) ≡ true
by_reading front line Skipped e fit unfit =
    let fits = takes front line (given_by front) fit (subst (λ r. Takes (given_by front) r (given_by front)) (sym e) refl) in
    let is : contexts_fit (front ++ line ∷ []) ≡ true = fits.0 in
    cc
by_reading front line Bad e fit unfit = bad_words front (words_of line) e
by_reading front line (Read l) e fit unfit = read_unfit front line l e fit unfit

-- ---- a line of a text

at_first : (bytes : List ℕ) (number : ℕ) (line : List ℕ) → IsFirstUnfit contexts_fit (lines_of bytes) number line → is_some (numbered_context_cause bytes number) ≡ true
at_first bytes number line first =
    let place : number - 1 ≡ length first.front = omega (arith, first.number_is) in
    ap (λ n. is_some (cause_in (script_lines bytes) n (slice_get (script_lines bytes) n))) place
    ∙ ap (λ ls. is_some (cause_in ls (length first.front) (slice_get ls (length first.front)))) (same_lines bytes ∙ first.place)
    ∙ ap (λ o. is_some (cause_in (first.front ++ line ∷ first.behind) (length first.front) o)) (get_seam first.front line first.behind)
    ∙ ap (λ front. is_some (context_line_cause front line)) (take-append_seam first.front (line ∷ first.behind))
    ∙ by_reading first.front line (reading_of line) refl first.front_fits first.unfit

no_default : (lines : List (List ℕ)) → IsTrue (contexts_fit lines) → default_contexts lines ≡ [] → list_any is_default_line lines ≡ false
no_default lines fit none = false_from_ne_true (list_any is_default_line lines) (λ some.
    let any = any_default lines (fits_of lines fit).all_formed some in
    let isnt : false ≡ true = sym (ap (list_any any_context) none) ∙ any in
    cc)

at_end : (bytes : List ℕ) (number : ℕ) → HasNoDefault bytes number → is_some (numbered_context_cause bytes number) ≡ true
at_end bytes number none =
    let place : number - 1 ≡ length (lines_of bytes) = omega (arith, none.number_is) in
    let here : (length (lines_of bytes) == length (lines_of bytes)) ≡ true = eq-eqb (length (lines_of bytes)) (length (lines_of bytes)) refl in
    ap (λ n. is_some (cause_in (script_lines bytes) n (slice_get (script_lines bytes) n))) place
    ∙ ap (λ ls. is_some (cause_in ls (length (lines_of bytes)) (slice_get ls (length (lines_of bytes))))) (same_lines bytes)
    ∙ ap (λ o. is_some (cause_in (lines_of bytes) (length (lines_of bytes)) o)) (slice_get_past (lines_of bytes) (length (lines_of bytes)) (omega arith))
    ∙ ap (λ t. is_some (cond (t && not (list_any is_default_line (lines_of bytes))) (Some cause.NoDefault) None)) here
    ∙ ap (λ t. is_some (cond (not t) (Some cause.NoDefault) None)) (no_default (lines_of bytes) none.fit none.none)

pub bad_contexts_have_cause : (bytes : List ℕ) (number : ℕ) → IsBadContexts bytes number → is_some (numbered_context_cause bytes number) ≡ true
bad_contexts_have_cause bytes number bad = elim bad [
  | inl formless ↦ at_first bytes number formless.0 formless.1
  | inr more ↦ elim more [
    | inl same ↦ at_first bytes number same.0 same.1
    | inr none ↦ at_end bytes number none
  ]
]

pub is_told : (bytes : List ℕ) (number : ℕ) (why : Option ContextCause) → IsBadContexts bytes number → why ≡ numbered_context_cause bytes number
    → MatchOption why (IsBadContexts bytes number → ⊥) (IsContextCause bytes number)
is_told bytes number None bad e = let some = bad_contexts_have_cause bytes number bad in cc
is_told bytes number (Some why) bad e = record { bad = bad; cause_is = sym e }
