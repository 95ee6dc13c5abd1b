-- Why a line of the allow text is bad: `allow DOMAIN LABEL`.
use Rattle.std.specs.Prelude.{◌≡◌, ℕ, ◌-◌, ◌==◌, if◌then◌else◌, List, [], ◌∷◌, length, slice_get, codes, Option, Some, None}
use Rattle.std.specs.Str.{bytes_eq}
use Rattle.prop_contexts.specs.Lines.{is_comment, words_of}
use Rattle.prop_contexts.specs.Grammar.{IsBadAllow}
use Rattle.script_lang.specs.Lines.{lines_of}
use Rattle.refusal_causes.specs.declared.policy.cause.AllowCause.{AllowCause}
use Rattle.refusal_causes.specs.declared.policy.cause.AllowCause.TheVariants as cause

abbrev pub count_cause : ℕ → Option AllowCause
count_cause given = if given == 2 then None else Some (cause.WrongCount given)

abbrev pub words_cause : List (List ℕ) → Option AllowCause
words_cause [] = None
words_cause (word ∷ args) =
    if is_comment word then None else if bytes_eq word (codes "allow") then count_cause (length args) else Some (cause.NotAllow word)

abbrev pub allow_line_cause : List ℕ → Option AllowCause
allow_line_cause line = words_cause (words_of line)

abbrev pub cause_in : Option (List ℕ) → Option AllowCause
cause_in None = None
cause_in (Some line) = allow_line_cause line

-- the cause of the line with this number, from 1. None where it isn't bad, or isn't there.
abbrev pub numbered_allow_cause : List ℕ → ℕ → Option AllowCause
numbered_allow_cause bytes number = cause_in (slice_get (lines_of bytes) (number - 1))

-- nothing is wrong in the contexts text, the line with this number is the first bad one of the allow text, and this is why
pub record IsAllowCause (contexts allow : List ℕ) (number : ℕ) (why : AllowCause) : Type 0 where
  pub bad : IsBadAllow contexts allow number
  pub cause_is : numbered_allow_cause allow number ≡ Some why
