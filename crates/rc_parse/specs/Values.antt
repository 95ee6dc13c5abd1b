-- The values of a service's options: times, and what `critical` is given (AOSP, init's README, "Services"; the limits are
-- this project's profile).
use Rattle.std.specs.Prelude.{ℕ, ◌-◌, ◌*◌, Bool, ◌&&◌, ◌||◌, ◌==◌, nat_eq, nat_le, nat_lt, if◌then◌else◌, List, [], ◌∷◌, length, codes, drop, take, Option, Some, None, Result, Ok, Err}
use Rattle.std.specs.List.{list_any, flat_map, starts_with, ends_with}
use Rattle.std.specs.Option.{option_and_then, unwrap_or}
use Rattle.std.specs.Str.{bytes_eq}
use Rattle.init_base.specs.Name.{is_legal_name}
use Rattle.init_base.specs.declared.units.Millis.{Millis}
use Rattle.init_machine.specs.Typed.{is_decimal, number_of}
use Rattle.init_machine.specs.declared.diagnostic.DiagKind.{DiagKind}
use Rattle.init_machine.specs.declared.diagnostic.DiagKind.TheVariants.{BadOption}
use Rattle.init_machine.specs.declared.service.Critical.{Critical}
use Rattle.rc_parse.specs.Readings.{is_bad, values}
use Rattle.rc_parse.specs.declared.critical.CriticalPart.{CriticalPart}
use Rattle.rc_parse.specs.declared.critical.WindowLength.{WindowLength}
use Rattle.rc_parse.specs.declared.critical.WindowLength.TheVariants as minute
use Rattle.rc_parse.specs.declared.critical.CriticalPart.TheVariants.{Window, Target}

-- one to seven decimal digits, of at most 1,000,000
abbrev pub is_number : List ℕ → Bool
is_number text = is_decimal 7 text && nat_le (number_of text) 1000000

-- a number of at least this one
abbrev pub number_from : ℕ → List ℕ → Option ℕ
number_from least text = if is_number text && nat_le least (number_of text) then Some (number_of text) else None

abbrev pub millis : ℕ → Millis
millis number = record { 0 = number }

-- the last of some values, or else another one
abbrev pub last_value : {A : Type 0} → A → List A → A
last_value other [] = other
last_value other (value ∷ later) = last_value value later

-- a window as it is written: `off`, or minutes
abbrev pub plain_window : List ℕ → Option WindowLength
plain_window text =
    if bytes_eq text (codes "off") then Some minute.Off
    else if is_number text then Some (minute.Minutes (number_of text))
    else None

abbrev pub onto_front : ℕ → Option (List ℕ × List ℕ) → Option (List ℕ × List ℕ)
onto_front b None = None
onto_front b (Some parts) = Some (b ∷ parts.0, parts.1)

-- what stands before the first `:-`, and what stands behind it
abbrev pub parts_at_default : List ℕ → Option (List ℕ × List ℕ)
parts_at_default [] = None
parts_at_default (b ∷ text) =
    if starts_with nat_eq (b ∷ text) (codes ":-") then Some ([], drop 1 text) else onto_front b (parts_at_default text)

-- what stands behind `${`, a legal name and `:-`, and before `}` at the end, where these are the parts round the `:-`
abbrev pub default_between : List ℕ × List ℕ → Option (List ℕ)
default_between parts =
    if starts_with nat_eq parts.0 (codes "${") && is_legal_name (drop 2 parts.0) && ends_with nat_eq parts.1 (codes "}")
    then Some (take (length parts.1 - 1) parts.1) else None

-- M of `${NAME:-M}`, where NAME ends at the first `:-`
abbrev pub default_window : List ℕ → Option (List ℕ)
default_window text = option_and_then default_between (parts_at_default text)

-- a window as it is written, or as the default of a property, which isn't looked up
abbrev pub window_of : List ℕ → Option WindowLength
window_of text = plain_window (unwrap_or (default_window text) text)

abbrev pub window_part : Option WindowLength → Result CriticalPart DiagKind
window_part None = Err BadOption
window_part (Some window) = Ok (Window window)

-- a target isn't empty
abbrev pub target_part : List ℕ → Result CriticalPart DiagKind
target_part target = if length target == 0 then Err BadOption else Ok (Target target)

-- `window=WINDOW` or `target=TARGET`
abbrev pub part_of : List ℕ → Result CriticalPart DiagKind
part_of word =
    if starts_with nat_eq word (codes "window=") then window_part (window_of (drop 7 word))
    else if starts_with nat_eq word (codes "target=") then target_part (drop 7 word)
    else Err BadOption

abbrev pub windows_in : CriticalPart → List WindowLength
windows_in (Window window) = window ∷ []
windows_in (Target target) = []

abbrev pub targets_in : CriticalPart → List (List ℕ)
targets_in (Window window) = []
targets_in (Target target) = target ∷ []

abbrev pub parts_of : List (List ℕ) → List CriticalPart
parts_of args = flat_map (λ arg. values (part_of arg)) args

abbrev pub windows_of : List (List ℕ) → List WindowLength
windows_of args = flat_map windows_in (parts_of args)

abbrev pub targets_of : List (List ℕ) → List (List ℕ)
targets_of args = flat_map targets_in (parts_of args)

-- an argument out of form, or two of one key
abbrev pub has_bad_part : List (List ℕ) → Bool
has_bad_part args =
    list_any (λ arg. is_bad (part_of arg)) args || nat_lt 1 (length (windows_of args)) || nat_lt 1 (length (targets_of args))

-- a window `off` takes the mark away
abbrev pub critical_for : WindowLength → List ℕ → Option Critical
critical_for minute.Off target = None
critical_for (minute.Minutes minutes) target = Some (record { window = millis (minutes * 60000); target = target })

-- The arguments of `critical`. Without a window it is four minutes, without a target `bootloader`.
abbrev pub critical_of : List (List ℕ) → Result (Option Critical) DiagKind
critical_of args =
    if has_bad_part args then Err BadOption
    else Ok (critical_for (last_value (minute.Minutes 4) (windows_of args)) (last_value (codes "bootloader") (targets_of args)))
