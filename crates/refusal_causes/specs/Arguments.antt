-- What stands behind the words of a script, and why a word isn't that.
use Rattle.std.specs.Prelude.{ℕ, is_some, if◌then◌else◌, List, [], ◌∷◌, codes, Option, Some, None}
use Rattle.std.specs.Option.{option_or}
use Rattle.std.specs.Str.{bytes_eq}
use Rattle.init_base.specs.Name.{is_legal_name}
use Rattle.init_base.specs.Quoted.{unquoted}
use Rattle.script_lang.specs.Statements.{last_moment, number_in}
use Rattle.refusal_causes.specs.declared.script.argument.Argument.{Argument}
use Rattle.refusal_causes.specs.declared.script.argument.Argument.TheVariants.{Size, Time, Status, Steps, Quoted, Name}
use Rattle.refusal_causes.specs.declared.script.cause.ScriptCause.{ScriptCause}
use Rattle.refusal_causes.specs.declared.script.cause.ScriptCause.TheVariants as cause

-- behind the first word of an act of the main actor
abbrev pub act_arguments_of : List ℕ → Option (List Argument)
act_arguments_of word =
    if bytes_eq word (codes "step") then Some (Steps ∷ [])
    else if bytes_eq word (codes "tick") then Some (Time ∷ [])
    else if bytes_eq word (codes "exit") then Some (Quoted ∷ Status ∷ [])
    else if bytes_eq word (codes "file") then Some (Quoted ∷ Quoted ∷ [])
    else None

-- behind the first word of a line of the main actor
abbrev pub arguments_of : List ℕ → Option (List Argument)
arguments_of word =
    if bytes_eq word (codes "area") then Some (Size ∷ [])
    else if bytes_eq word (codes "plan") then Some (Quoted ∷ Time ∷ Status ∷ [])
    else if bytes_eq word (codes "client") then Some (Quoted ∷ Quoted ∷ [])
    else act_arguments_of word

-- behind the word of a client's request
abbrev pub request_arguments_of : List ℕ → Option (List Argument)
request_arguments_of word =
    if bytes_eq word (codes "set") then Some (Quoted ∷ Quoted ∷ [])
    else if bytes_eq word (codes "read") then Some (Name ∷ [])
    else if bytes_eq word (codes "sync") then Some []
    else if bytes_eq word (codes "catch") then Some []
    else None

abbrev pub number_cause : ℕ → ℕ → List ℕ → Option ScriptCause
number_cause least most word = if is_some (number_in least most word) then None else Some (cause.BadNumber word least most)

abbrev pub text_cause : List ℕ → Option ScriptCause
text_cause word = if is_some (unquoted word) then None else Some (cause.NotQForm word)

abbrev pub legal_cause : List ℕ → Option (List ℕ) → Option ScriptCause
legal_cause word None = Some (cause.NotQForm word)
legal_cause word (Some name) = if is_legal_name name then None else Some (cause.IllegalName word)

abbrev pub name_cause : List ℕ → Option ScriptCause
name_cause word = legal_cause word (unquoted word)

-- why a word isn't what it must be
abbrev pub argument_cause : Argument → List ℕ → Option ScriptCause
argument_cause Size word = number_cause 64 1048576 word
argument_cause Time word = number_cause 0 last_moment word
argument_cause Status word = number_cause 0 255 word
argument_cause Steps word = number_cause 1 1000000 word
argument_cause Quoted word = text_cause word
argument_cause Name word = name_cause word

-- the cause of the first of some words that isn't what it must be
abbrev pub arguments_cause : List Argument → List (List ℕ) → Option ScriptCause
arguments_cause (argument ∷ arguments) (word ∷ words) = option_or (argument_cause argument word) (arguments_cause arguments words)
arguments_cause (argument ∷ arguments) [] = None
arguments_cause [] words = None
