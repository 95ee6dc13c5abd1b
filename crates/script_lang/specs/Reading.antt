-- What the private functions say of themselves. No promise of the crate cites these definitions.
use Rattle.std.specs.Prelude.{◌≡◌, Option, Some, None, Result, Ok, Err}
use Rattle.script_lang.specs.declared.fault.Fault.{Fault}
use Rattle.script_lang.specs.declared.fault.Fault.TheVariants as fault

-- an answer of the code is this reading, unless memory ran out
abbrev pub IsReading : {A : Type 0} → Result A Fault → Option A → Type 0
IsReading (Ok value) reading = reading ≡ Some value
IsReading (Err fault.Bad) reading = reading ≡ None
IsReading (Err fault.NoMemory) reading = Unit {0}

abbrev pub IsBad : Fault → Type 0
IsBad why = why ≡ fault.Bad
