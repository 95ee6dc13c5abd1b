-- Why a line of a script is bad.
use Rattle.std.specs.Prelude.{◌≡◌, ℕ, ◌-◌, not, if◌then◌else◌, List, take, slice_get, Option, Some, None, option_map}
use Rattle.std.specs.List.{find}
use Rattle.std.specs.Option.{option_or}
use Rattle.script_lang.specs.Lines.{is_permitted, lines_of, says_nothing, words_of}
use Rattle.script_lang.specs.Refusal.{IsBadAt}
use Rattle.refusal_causes.specs.Misfits.{misfit_cause}
use Rattle.refusal_causes.specs.Statements.{statement_cause}
use Rattle.refusal_causes.specs.declared.script.cause.ScriptCause.{ScriptCause}
use Rattle.refusal_causes.specs.declared.script.cause.ScriptCause.TheVariants as cause

-- the first byte of a line that may not stand in one
abbrev pub byte_cause : List ℕ → Option ScriptCause
byte_cause line = option_map cause.BadByte (find (λ byte. not (is_permitted byte)) line)

-- A line behind those before it: a byte that may not stand in a line comes before all else, then what is out of form, then what
-- doesn't fit behind the lines before.
abbrev pub line_cause : List (List ℕ) → List ℕ → Option ScriptCause
line_cause before line =
    if says_nothing line then None
    else option_or (byte_cause line) (option_or (statement_cause (words_of line)) (misfit_cause before (words_of line)))

abbrev pub cause_in : List (List ℕ) → Option (List ℕ) → Option ScriptCause
cause_in before None = None
cause_in before (Some line) = line_cause before line

-- the cause of the line with this number, from 1. None where it isn't bad, or isn't there.
abbrev pub numbered_cause : List ℕ → ℕ → Option ScriptCause
numbered_cause bytes number = let lines = lines_of bytes in cause_in (take (number - 1) lines) (slice_get lines (number - 1))

-- the line with this number is the first bad one of the script, and this is why
pub record IsScriptCause (bytes : List ℕ) (number : ℕ) (why : ScriptCause) : Type 0 where
  pub bad : IsBadAt bytes number
  pub cause_is : numbered_cause bytes number ≡ Some why
