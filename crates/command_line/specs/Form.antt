-- The forms of the words of the command line.
use Rattle.std.specs.Prelude.{ℕ, Bool, false, not, ◌&&◌, ◌==◌, if◌then◌else◌, List, [], ◌∷◌, Option, Some, None, option_map}
use Rattle.std.specs.Option.{option_map_or}
use Rattle.std.specs.Str.{is_utf8}
use Rattle.command_line.specs.FormName.{form_named}
use Rattle.command_line.specs.Services.{services_in}
use Rattle.command_line.specs.declared.form.Form.{Form}
use Rattle.command_line.specs.declared.form.Form.TheVariants as form
use Rattle.command_line.specs.declared.form_name.FormName.{FormName}
use Rattle.command_line.specs.declared.form_name.FormName.TheVariants.{Run, Race, Check, Soak, Wire, Dispatch, Audit}

-- a word that may stand after the name of a form, as a path does: not empty, not begun by `-` (45), and UTF-8
abbrev pub is_path_word : List ℕ → Bool
is_path_word [] = false
is_path_word (byte ∷ rest) = not (byte == 45) && is_utf8 (byte ∷ rest)

-- `run ROOT SCRIPT`, `race ROOT SCRIPT`, `check ROOT`, `soak N`, `wire ROOT MESSAGES`, `dispatch ROOT SCRIPT` and
-- `audit ROOT SCRIPT TRACE`
abbrev pub form_with : List (List ℕ) → FormName → Option Form
form_with (root ∷ []) Check = if is_path_word root then Some form.Check else None
form_with (count ∷ []) Soak = if is_path_word count then option_map form.Soak (services_in count) else None
form_with (root ∷ script ∷ []) Run = if is_path_word root && is_path_word script then Some form.Run else None
form_with (root ∷ script ∷ []) Race = if is_path_word root && is_path_word script then Some form.Race else None
form_with (root ∷ messages ∷ []) Wire = if is_path_word root && is_path_word messages then Some form.Wire else None
form_with (root ∷ script ∷ []) Dispatch = if is_path_word root && is_path_word script then Some form.Dispatch else None
form_with (root ∷ script ∷ trace ∷ []) Audit =
    if is_path_word root && is_path_word script && is_path_word trace then Some form.Audit else None
form_with words name = None

abbrev pub form_of : List (List ℕ) → Option Form
form_of [] = None
form_of (word ∷ words) = option_map_or (form_with words) (form_named word) None
