-- Each line that a script's reader refuses has a cause.
use Rattle.std.proofs.Common.{◌≡◌, ℕ, ◌-◌, ◌≤◌, suc, true, false, cond, not, ◌||◌, IsTrue, List, [], ◌∷◌, ◌++◌, length, take, is_some, Option, Some, None, refl, sym, ap, ◌∙◌, arith, slice_get, MatchOption, nat_eq, subst, eq-eqb}
use Rattle.std.specs.List.{list_all, position, position_or_len}
use Rattle.std.specs.Option.{option_map, option_or}
use Rattle.std.proofs.Math.Seq.{take-append_seam}
use Rattle.std.proofs.lemmas.Bool.{eqb-true}
use Rattle.script_lang.specs.Lines.{is_blank, is_comment, is_space, lines_of, says_nothing, words_of}
use Rattle.script_lang.specs.Refusal.{IsBadAt, IsRefused}
use Rattle.script_lang.specs.declared.refusal.ScriptRefusal.{ScriptRefusal}
use Rattle.script_lang.specs.declared.refusal.ScriptRefusal.TheVariants.{BadLine}
use Rattle.script_lang.specs.Script.{AllFit, line_fits, reading_fits, statements_of}
use Rattle.script_lang.specs.Statements.{reading_of, statement_of}
use Rattle.script_lang.specs.declared.statement.Statement.{Statement}
use Rattle.script_lang.proofs.LineWords.{first_word_is, nowhere}
use Rattle.script_lang.proofs.Spellings.{statement_written}
use Rattle.refusal_causes.specs.Misfits.{misfit_cause}
use Rattle.refusal_causes.specs.Script.{IsScriptCause, byte_cause, cause_in, line_cause, numbered_cause}
use Rattle.refusal_causes.specs.Statements.{statement_cause}
use Rattle.refusal_causes.specs.declared.script.cause.ScriptCause.{ScriptCause}
use Rattle.refusal_causes.proofs.ScriptForms.{words_said}
use Rattle.refusal_causes.proofs.ScriptMisfits.{AreRead, misfit_has_cause}

-- a line without words is empty

blanks : (line : List ℕ) → length line ≤ position_or_len (λ b. not (is_space b)) line → list_all is_blank line ≡ true
blanks [] high = refl
blanks (b ∷ rest) high =
    elim (is_space b) as (λ t. is_space b ≡ t → list_all is_blank (b ∷ rest) ≡ true) [
      | true ↦ λ space.
          let more : position_or_len (λ b. not (is_space b)) (b ∷ rest) ≡ suc (position_or_len (λ b. not (is_space b)) rest) = rw space (omega arith) in
          let later = blanks rest (omega (arith, more, high)) in
          rw space later
      | false ↦ λ other.
          let none : position_or_len (λ b. not (is_space b)) (b ∷ rest) ≡ 0 = rw other refl in
          absurd (omega (arith, none, high))
    ] refl

no_words : (line : List ℕ) → words_of line ≡ [] → says_nothing line ≡ true
no_words line none =
    elim (position (λ b. not (is_space b)) line) as (λ o. position (λ b. not (is_space b)) line ≡ o → says_nothing line ≡ true) [
      | None ↦ λ e. ap (λ t. t || is_comment line) (blanks line (nowhere (λ b. not (is_space b)) line e))
      | Some start ↦ λ e. let some = first_word_is line start e in cc
    ] refl

all_read : (lines : List (List ℕ)) → AllFit lines → AreRead lines
all_read lines fit before line behind e none =
    let is : line_fits before line ≡ true = fit before line behind e in
    let isnt : line_fits before line ≡ false = ap (reading_fits (statements_of before)) none in
    cc

-- what the words of a line say, where the line says something
read_so : (line : List ℕ) (s : Statement) → says_nothing line ≡ false → statement_of (words_of line) ≡ Some s → reading_of line ≡ Some (Some s)
unfolding reading_of
read_so line s some e =
    ap (λ t. cond t (Some None) (option_map Some (statement_of (words_of line)))) some ∙ ap (option_map Some) e

nothing_fits : (before : List (List ℕ)) (line : List ℕ) → says_nothing line ≡ true → line_fits before line ≡ true
unfolding reading_of
nothing_fits before line nothing =
    ap (λ t. reading_fits (statements_of before) (cond t (Some None) (option_map Some (statement_of (words_of line))))) nothing

by_words : (before : List (List ℕ)) (line : List ℕ) (words : List (List ℕ)) → AllFit before → line_fits before line ≡ false → says_nothing line ≡ false
    → words_of line ≡ words → is_some (option_or (statement_cause words) (misfit_cause before words)) ≡ true
by_words before line [] fit misfit some e = let nothing = no_words line e in cc
by_words before line (word ∷ args) fit misfit some e =
    elim (statement_cause (word ∷ args)) as (λ o. statement_cause (word ∷ args) ≡ o → is_some (option_or o (misfit_cause before (word ∷ args))) ≡ true) [
      | Some why ↦ λ is. refl
      | None ↦ λ none.
          let said = words_said word args none in
          let read : reading_of line ≡ Some (Some said.0) = read_so line said.0 some (ap statement_of e ∙ said.1) in
          let written = statement_written (word ∷ args) said.0 said.1 in
          ap (λ ws. is_some (misfit_cause before ws)) written.0
          ∙ misfit_has_cause before said.0 (all_read before fit) written.1 (sym (ap (reading_fits (statements_of before)) read) ∙ misfit)
    ] refl

line_has_cause : (before : List (List ℕ)) (line : List ℕ) → AllFit before → line_fits before line ≡ false → is_some (line_cause before line) ≡ true
line_has_cause before line fit misfit =
    elim (says_nothing line) as (λ t. says_nothing line ≡ t
    → is_some (cond t None (option_or (byte_cause line) (option_or (statement_cause (words_of line)) (misfit_cause before (words_of line))))) ≡ true) [
      | true ↦ λ nothing. let fits = nothing_fits before line nothing in cc
      | false ↦ λ some.
          elim (byte_cause line) as (λ o. is_some (option_or o (option_or (statement_cause (words_of line)) (misfit_cause before (words_of line)))) ≡ true) [
            | Some why ↦ refl
            | None ↦ by_words before line (words_of line) fit misfit some refl
          ]
    ] refl

pub get_seam : (xs : List (List ℕ)) (y : List ℕ) (ys : List (List ℕ)) → slice_get (xs ++ y ∷ ys) (length xs) ≡ Some y
get_seam [] y ys = refl
get_seam (x ∷ xs) y ys = get_seam xs y ys

pub bad_line_has_cause : (bytes : List ℕ) (number : ℕ) → IsBadAt bytes number → is_some (numbered_cause bytes number) ≡ true
bad_line_has_cause bytes number bad =
    let first = bad.first_bad in
    let place : number - 1 ≡ length first.before = omega (arith, first.number_is) in
    ap (λ n. is_some (cause_in (take n (lines_of bytes)) (slice_get (lines_of bytes) n))) place
    ∙ ap (λ ls. is_some (cause_in (take (length first.before) ls) (slice_get ls (length first.before)))) first.text
    ∙ ap (λ front. is_some (cause_in front (slice_get (first.before ++ first.bad ∷ first.behind) (length first.before)))) (take-append_seam first.before (first.bad ∷ first.behind))
    ∙ ap (λ o. is_some (cause_in first.before o)) (get_seam first.before first.bad first.behind)
    ∙ line_has_cause first.before first.bad first.all_fit first.misfit

pub is_told : (bytes : List ℕ) (number : ℕ) (why : Option ScriptCause) → IsBadAt bytes number → why ≡ numbered_cause bytes number
    → MatchOption why (IsBadAt bytes number → ⊥) (IsScriptCause bytes number)
is_told bytes number None bad e = let some = bad_line_has_cause bytes number bad in cc
is_told bytes number (Some cause) bad e = record { bad = bad; cause_is = sym e }

-- which line a refusal is of

pub at_line : (bytes : List ℕ) (refusal : ScriptRefusal) (line number : ℕ) → refusal ≡ BadLine line → IsRefused bytes refusal
    → ((other : ℕ) → IsBadAt bytes line → IsBadAt bytes other → line ≡ other)
    → (IsTrue (nat_eq line number) → IsBadAt bytes number) × (IsBadAt bytes number → IsTrue (nat_eq line number))
at_line bytes refusal line number is refused one =
    let bad : IsBadAt bytes line = subst (IsRefused bytes) is refused in
    (λ same. subst (IsBadAt bytes) (eqb-true line number same) bad, λ other. eq-eqb line number (one number bad other))
