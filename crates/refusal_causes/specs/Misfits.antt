-- Why a line of a script that is in form doesn't fit behind the lines before it. Its words tell what it declares: texts have one
-- q form, so two names are the same where their words are.
use Rattle.std.specs.Prelude.{ℕ, ◌+◌, Bool, false, not, ◌&&◌, ◌||◌, nat_le, if◌then◌else◌, List, [], ◌∷◌, drop, count_by, codes, Option, Some, None, option_map}
use Rattle.std.specs.List.{list_any, position}
use Rattle.std.specs.Option.{option_or}
use Rattle.std.specs.Str.{bytes_eq}
use Rattle.script_lang.specs.Lines.{says_nothing, words_of}
use Rattle.script_lang.specs.Statements.{is_call}
use Rattle.refusal_causes.specs.declared.script.cause.ScriptCause.{ScriptCause}
use Rattle.refusal_causes.specs.declared.script.cause.ScriptCause.TheVariants as cause

-- the number of the line at a place, from 1
abbrev pub line_number : ℕ → ℕ
line_number place = place + 1

abbrev pub is_area : List ℕ → Bool
is_area word = bytes_eq word (codes "area")

abbrev pub is_client : List ℕ → Bool
is_client word = bytes_eq word (codes "client")

-- a declaration begins with one of three words
abbrev pub is_declaring : List ℕ → Bool
is_declaring word = is_area word || bytes_eq word (codes "plan") || is_client word

abbrev pub first_is : (List ℕ → Bool) → List (List ℕ) → Bool
first_is p [] = false
first_is p (word ∷ words) = p word

abbrev pub begins_declaration : List ℕ → Bool
begins_declaration line = first_is is_declaring (words_of line)

-- each other line that says something is an act
abbrev pub is_act_line : List ℕ → Bool
is_act_line line = not (says_nothing line) && not (begins_declaration line)

abbrev pub is_client_line : List ℕ → Bool
is_client_line line = first_is is_client (words_of line)

abbrev pub has_name : List ℕ → List (List ℕ) → Bool
has_name name words = first_is (λ word. bytes_eq word name) words

abbrev pub declared_by : List ℕ → List ℕ → List (List ℕ) → Bool
declared_by word name [] = false
declared_by word name (first ∷ rest) = bytes_eq first word && (is_area word || has_name name rest)

-- a line says something, and declares the area, whatever its size, or a path or a client of this name
abbrev pub declares : List ℕ → List ℕ → List ℕ → Bool
declares word name line = not (says_nothing line) && declared_by word name (words_of line)

-- the first act is where no declaration may stand any more
abbrev pub late_cause : List (List ℕ) → Option ScriptCause
late_cause before = option_map cause.Late (option_map line_number (position is_act_line before))

abbrev pub twice_cause : List (List ℕ) → List ℕ → List ℕ → Option ScriptCause
twice_cause before word name = option_map (cause.Twice word name) (option_map line_number (position (declares word name) before))

abbrev pub too_many_cause : List (List ℕ) → List ℕ → Option ScriptCause
too_many_cause before word = if is_client word && nat_le 64 (count_by is_client_line before) then Some cause.TooManyClients else None

abbrev pub declaration_cause : List (List ℕ) → List ℕ → List ℕ → Option ScriptCause
declaration_cause before word name = option_or (late_cause before) (option_or (twice_cause before word name) (too_many_cause before word))

abbrev pub client_cause : List (List ℕ) → List ℕ → Option ScriptCause
client_cause before name = if list_any (declares (codes "client") name) before then None else Some (cause.UnknownClient name)

abbrev pub first_of : List (List ℕ) → List ℕ
first_of [] = []
first_of (word ∷ words) = word

-- a line with these words, behind some lines
abbrev pub misfit_cause : List (List ℕ) → List (List ℕ) → Option ScriptCause
misfit_cause before [] = None
misfit_cause before (word ∷ args) =
    if is_declaring word then declaration_cause before word (first_of args)
    else if is_call word then client_cause before (drop 1 word)
    else None
