-- What a load answers, and when.
use Rattle.std.specs.Prelude.{◌≡◌, ℕ, ◌<◌, ⊤, Bool, true, false, Result, Ok, Err}
use Rattle.rc_import.specs.declared.loaded.LoadLimit.{LoadLimit}
use Rattle.rc_import.specs.declared.loaded.LoadLimit.TheVariants as limits
use Rattle.rc_import.specs.declared.loaded.LoadRefusal.{LoadRefusal}
use Rattle.rc_import.specs.declared.loaded.LoadRefusal.TheVariants.{NoInit, ReadFault, TooLarge, TooMany, NoMemory}

-- an answer of the code is that of the definition, unless a call on the files failed or memory ran out
abbrev pub IsAnswer : {T : Type 0} → Result T LoadRefusal → Result T LoadRefusal → Type 0
IsAnswer (Ok value) answer = answer ≡ Ok value
IsAnswer (Err NoInit) answer = answer ≡ Err NoInit
IsAnswer (Err ReadFault) answer = ⊤
IsAnswer (Err (TooLarge path limit number)) answer = answer ≡ Err (TooLarge path limit number)
IsAnswer (Err (TooMany path number)) answer = answer ≡ Err (TooMany path number)
IsAnswer (Err NoMemory) answer = ⊤

-- whether a call on the files failed
abbrev pub is_read_fault : {T : Type 0} → Result T LoadRefusal → Bool
is_read_fault (Ok value) = false
is_read_fault (Err NoInit) = false
is_read_fault (Err ReadFault) = true
is_read_fault (Err (TooLarge path limit number)) = false
is_read_fault (Err (TooMany path number)) = false
is_read_fault (Err NoMemory) = false

-- a number past a limit: one more than the bytes of a file or the names of a directory, or a sum of bytes past that of all files
abbrev pub IsPast : LoadLimit → ℕ → Type 0
IsPast limits.FileBytes number = number ≡ 1048577
IsPast limits.Names number = number ≡ 1025
IsPast limits.AllBytes number = 33554432 < number

-- the number of a refusal is past its limit, also where the tree isn't told
abbrev pub HasItsNumber : {T : Type 0} → Result T LoadRefusal → Type 0
HasItsNumber (Ok value) = ⊤
HasItsNumber (Err NoInit) = ⊤
HasItsNumber (Err ReadFault) = ⊤
HasItsNumber (Err (TooLarge path limit number)) = IsPast limit number
HasItsNumber (Err (TooMany path number)) = number ≡ 1025
HasItsNumber (Err NoMemory) = ⊤
