-- What is wrong with words that have no form: the first fault, from the left.
use Rattle.std.specs.Prelude.{ℕ, ◌==◌, if◌then◌else◌, List, [], ◌∷◌, length, Option, Some, None, option_map}
use Rattle.std.specs.Option.{option_map_or, option_or}
use Rattle.std.specs.Str.{is_utf8}
use Rattle.command_line.specs.FormName.{form_named}
use Rattle.command_line.specs.Services.{services_in}
use Rattle.command_line.specs.declared.form_name.FormName.{FormName}
use Rattle.command_line.specs.declared.form_name.FormName.TheVariants.{Run, Race, Check, Soak, Wire, Dispatch, Audit}
use Rattle.command_line.specs.declared.misuse.Misuse.{Misuse}
use Rattle.command_line.specs.declared.misuse.Misuse.TheVariants as misuse
use Rattle.command_line.specs.declared.misuse.Place.{Place}
use Rattle.command_line.specs.declared.misuse.Place.TheVariants.{Root, Script, Messages, Trace, Number}
use Rattle.command_line.specs.declared.misuse.WordFault.{WordFault}
use Rattle.command_line.specs.declared.misuse.WordFault.TheVariants as fault

-- why a word names no path: it is empty, or begins with `-` (45), or isn't UTF-8
abbrev pub word_fault : List ℕ → Option WordFault
word_fault [] = Some fault.Empty
word_fault (byte ∷ rest) =
    if byte == 45 then Some fault.Dash else (if is_utf8 (byte ∷ rest) then None else Some fault.NotUtf8)

abbrev pub misuse_at : Place → List ℕ → Option Misuse
misuse_at place word = option_map (misuse.BadWord place) (word_fault word)

-- a word that is the number of these services
abbrev pub number_fault : Option ℕ → Option Misuse
number_fault None = Some misuse.BadNumber
number_fault (Some services) = None

-- what is wrong with the words after the form's name: `run`, `race` and `dispatch` take the root and the script, `wire` the root and the
-- messages, `check` the root, `audit` the root, the script and the trace, and `soak` a number of services
abbrev pub misuse_after : List (List ℕ) → FormName → Option Misuse
misuse_after (root ∷ []) Check = misuse_at Root root
misuse_after (count ∷ []) Soak = option_or (misuse_at Number count) (number_fault (services_in count))
misuse_after (root ∷ script ∷ []) Run = option_or (misuse_at Root root) (misuse_at Script script)
misuse_after (root ∷ script ∷ []) Race = option_or (misuse_at Root root) (misuse_at Script script)
misuse_after (root ∷ messages ∷ []) Wire = option_or (misuse_at Root root) (misuse_at Messages messages)
misuse_after (root ∷ script ∷ []) Dispatch = option_or (misuse_at Root root) (misuse_at Script script)
misuse_after (root ∷ script ∷ trace ∷ []) Audit = option_or (misuse_at Root root) (option_or (misuse_at Script script) (misuse_at Trace trace))
misuse_after words form = Some (misuse.WrongCount form (length words))

-- the first thing that is wrong: no word, a first word that is no form's name, or what stands after it
abbrev pub misuse_of : List (List ℕ) → Option Misuse
misuse_of [] = Some misuse.NoForm
misuse_of (word ∷ words) = option_map_or (misuse_after words) (form_named word) (Some misuse.UnknownForm)
