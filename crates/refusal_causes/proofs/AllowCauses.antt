-- Each line of the allow text that its reader refuses has a cause.
use Rattle.std.proofs.Common.{◌≡◌, ℕ, ◌-◌, ◌==◌, Bool, true, false, cond, ◌&&◌, List, [], ◌∷◌, ◌++◌, length, codes, is_some, Option, Some, None, refl, sym, ap, ◌∙◌, arith, slice_get, MatchOption}
use Rattle.std.specs.Str.{bytes_eq}
use Rattle.std.proofs.lemmas.Bool.{eqb-true}
use Rattle.std.proofs.lemmas.List.Folds.{list_all-append}
use Rattle.init_machine.specs.declared.policy.AllowLine.{AllowLine}
use Rattle.prop_contexts.specs.Allows.{allow_of, allow_of_words, pair_of}
use Rattle.prop_contexts.specs.Grammar.{allows_fit, is_formed, IsBadAllow}
use Rattle.prop_contexts.specs.Lines.{is_comment, words_of}
use Rattle.prop_contexts.specs.declared.line.Reading.{Reading}
use Rattle.prop_contexts.specs.declared.line.Reading.TheVariants.{Skipped, Bad}
use Rattle.script_lang.specs.Lines.{lines_of as script_lines}
use Rattle.refusal_causes.specs.Allows.{IsAllowCause, cause_in, count_cause, numbered_allow_cause, words_cause}
use Rattle.refusal_causes.specs.declared.policy.cause.AllowCause.{AllowCause}
use Rattle.refusal_causes.specs.declared.policy.cause.AllowCause.TheVariants as cause
use Rattle.refusal_causes.proofs.ContextCauses.{same_lines}
use Rattle.refusal_causes.proofs.ScriptCauses.{get_seam}

many : (a b c : List ℕ) (rest : List (List ℕ)) → is_some (count_cause (length (a ∷ b ∷ c ∷ rest))) ≡ true
many a b c rest =
    elim (length (a ∷ b ∷ c ∷ rest) == 2) as (λ t. (length (a ∷ b ∷ c ∷ rest) == 2) ≡ t → is_some (cond t None (Some (cause.WrongCount (length (a ∷ b ∷ c ∷ rest))))) ≡ true) [
      | true ↦ λ e. absurd (omega (arith, eqb-true (length (a ∷ b ∷ c ∷ rest)) 2 e))
      | false ↦ λ e. refl
    ] refl

bad_pair : (words : List (List ℕ)) → is_formed (pair_of words) ≡ false → is_some (count_cause (length words)) ≡ true
bad_pair [] h = refl
bad_pair (a ∷ []) h = refl
bad_pair (a ∷ b ∷ []) h = cc
bad_pair (a ∷ b ∷ c ∷ rest) h = many a b c rest

bad_words : (words : List (List ℕ)) → is_formed (allow_of_words words) ≡ false → is_some (words_cause words) ≡ true
bad_words [] h = cc
bad_words (first ∷ words) h =
    elim (is_comment first) as (λ t. is_formed (cond {A = Reading AllowLine} t Skipped (cond (bytes_eq first (codes "allow")) (pair_of words) Bad)) ≡ false
    → is_some (cond t None (cond (bytes_eq first (codes "allow")) (count_cause (length words)) (Some (cause.NotAllow first)))) ≡ true) [
      | true ↦ λ e. cc
      | false ↦ λ e.
          elim (bytes_eq first (codes "allow")) as (λ t. is_formed (cond {A = Reading AllowLine} t (pair_of words) Bad) ≡ false
          → is_some (cond t (count_cause (length words)) (Some (cause.NotAllow first))) ≡ true) [
            | true ↦ λ b. bad_pair words b
            | false ↦ λ b. refl
          ] e
    ] h

last_false : (a b c : Bool) → a ≡ b && (c && true) → b ≡ true → a ≡ false → c ≡ false
last_false a b true e first all = cc
last_false a b false e first all = refl

pub bad_allow_has_cause : (contexts allow : List ℕ) (number : ℕ) → IsBadAllow contexts allow number → is_some (numbered_allow_cause allow number) ≡ true
bad_allow_has_cause contexts allow number bad =
    let first = bad.unfit in
    let place : number - 1 ≡ length first.front = omega (arith, first.number_is) in
    let formed : is_formed (allow_of bad.line) ≡ false =
    last_false (allows_fit (first.front ++ bad.line ∷ [])) (allows_fit first.front) (is_formed (allow_of bad.line))
    (list_all-append (λ l. is_formed (allow_of l)) first.front (bad.line ∷ [])) first.front_fits first.unfit in
    ap (λ n. is_some (cause_in (slice_get (script_lines allow) n))) place
    ∙ ap (λ ls. is_some (cause_in (slice_get ls (length first.front)))) (same_lines allow ∙ first.place)
    ∙ ap (λ o. is_some (cause_in o)) (get_seam first.front bad.line first.behind)
    ∙ bad_words (words_of bad.line) formed

pub is_told : (contexts allow : List ℕ) (number : ℕ) (why : Option AllowCause) → IsBadAllow contexts allow number → why ≡ numbered_allow_cause allow number
    → MatchOption why (IsBadAllow contexts allow number → ⊥) (IsAllowCause contexts allow number)
is_told contexts allow number None bad e = let some = bad_allow_has_cause contexts allow number bad in cc
is_told contexts allow number (Some why) bad e = record { bad = bad; cause_is = sym e }
