-- The names of the forms.
use Rattle.std.specs.Prelude.{ℕ, if◌then◌else◌, List, codes, Option, Some, None}
use Rattle.std.specs.Str.{bytes_eq}
use Rattle.command_line.specs.declared.form_name.FormName.{FormName}
use Rattle.command_line.specs.declared.form_name.FormName.TheVariants.{Run, Race, Check, Soak, Wire, Dispatch, Audit}

-- the form with this name
abbrev pub form_named : List ℕ → Option FormName
form_named word =
    if bytes_eq word (codes "run") then Some Run
    else (if bytes_eq word (codes "race") then Some Race
    else (if bytes_eq word (codes "check") then Some Check
    else (if bytes_eq word (codes "soak") then Some Soak
    else (if bytes_eq word (codes "wire") then Some Wire
    else (if bytes_eq word (codes "dispatch") then Some Dispatch
    else (if bytes_eq word (codes "audit") then Some Audit else None))))))
