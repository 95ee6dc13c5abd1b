-- What a line is read as: a value, or the first diagnostic that fits in its place.
use Rattle.std.specs.Prelude.{◌≡◌, ℕ, Bool, true, false, List, [], ◌∷◌, Result, Ok, Err}
use Rattle.init_machine.specs.declared.diagnostic.DiagKind.{DiagKind}
use Rattle.init_machine.specs.declared.diagnostic.Diagnostic.{Diagnostic}
use Rattle.rc_parse.specs.declared.fault.Fault.{Fault}
use Rattle.rc_parse.specs.declared.fault.Fault.TheVariants as fault

abbrev pub diagnostic : List ℕ → ℕ → DiagKind → Diagnostic
diagnostic file line kind = record { file = file; line = line; kind = kind }

-- the value, where there is one
abbrev pub values : {A : Type 0} → Result A DiagKind → List A
values (Ok value) = value ∷ []
values (Err kind) = []

-- whether there is none
abbrev pub is_bad : {A : Type 0} → Result A DiagKind → Bool
is_bad (Ok value) = false
is_bad (Err kind) = true

-- the diagnostic of a line of a file, where there is one
abbrev pub diagnosed : {A : Type 0} → List ℕ → ℕ → Result A DiagKind → List Diagnostic
diagnosed file line (Ok value) = []
diagnosed file line (Err kind) = diagnostic file line kind ∷ []

-- an answer of the code is this reading, unless memory ran out
abbrev pub IsReading : {A : Type 0} → Result A Fault → Result A DiagKind → Type 0
IsReading (Ok value) reading = reading ≡ Ok value
IsReading (Err (fault.Bad kind)) reading = reading ≡ Err kind
IsReading (Err fault.NoMemory) reading = Unit {0}
