-- Why a line of a script is out of form, by its words.
use Rattle.std.specs.Prelude.{ℕ, ◌==◌, if◌then◌else◌, List, [], ◌∷◌, length, drop, Option, Some, None}
use Rattle.std.specs.Option.{option_or}
use Rattle.script_lang.specs.Statements.{is_call}
use Rattle.refusal_causes.specs.Arguments.{arguments_cause, arguments_of, request_arguments_of, text_cause}
use Rattle.refusal_causes.specs.declared.script.argument.Argument.{Argument}
use Rattle.refusal_causes.specs.declared.script.cause.ScriptCause.{ScriptCause}
use Rattle.refusal_causes.specs.declared.script.cause.ScriptCause.TheVariants as cause

abbrev pub count_cause : List ℕ → ℕ → ℕ → Option ScriptCause
count_cause word wanted given = if wanted == given then None else Some (cause.WrongCount word wanted given)

-- what is wrong behind a word that takes these arguments: their number, or else the first one
abbrev pub behind_cause : List ℕ → List (List ℕ) → List Argument → Option ScriptCause
behind_cause word args arguments = option_or (count_cause word (length arguments) (length args)) (arguments_cause arguments args)

abbrev pub plain_cause_of : Option (List Argument) → List ℕ → List (List ℕ) → Option ScriptCause
plain_cause_of None word args = Some (cause.UnknownWord word)
plain_cause_of (Some arguments) word args = behind_cause word args arguments

-- a line of the main actor
abbrev pub plain_cause : List ℕ → List (List ℕ) → Option ScriptCause
plain_cause word args = plain_cause_of (arguments_of word) word args

abbrev pub request_cause_of : Option (List Argument) → List ℕ → List (List ℕ) → Option ScriptCause
request_cause_of None word args = Some (cause.UnknownRequest word)
request_cause_of (Some arguments) word args = behind_cause word args arguments

-- what stands behind a client's name
abbrev pub request_cause : List (List ℕ) → Option ScriptCause
request_cause [] = Some cause.NoRequest
request_cause (word ∷ args) = request_cause_of (request_arguments_of word) word args

-- a line with these words: first its first word, then those behind it, from the left
abbrev pub statement_cause : List (List ℕ) → Option ScriptCause
statement_cause [] = None
statement_cause (word ∷ args) =
    if is_call word then option_or (text_cause (drop 1 word)) (request_cause args) else plain_cause word args
