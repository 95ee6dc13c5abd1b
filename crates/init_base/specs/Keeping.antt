-- What calls on a keeper answer, where it tells the text that it holds.
use Rattle.std.specs.Prelude.{◌≡◌, ℕ, ◌<◌, ⊤, List, length, Option, Some, None, Result, Ok, Err}
use Rattle.init_base.specs.declared.outside.refusal.IoRefusal.{IoRefusal}
use Rattle.init_base.specs.declared.outside.refusal.ReadRefusal.{ReadRefusal}
use Rattle.init_base.specs.declared.outside.refusal.ReadRefusal.TheVariants.{Failed, TooLarge, NoMemory}

-- what `load` answers: the text that is held, and `TooLarge` exactly past the limit
abbrev pub LoadsHeld : Option (List ℕ) → ℕ → Result (List ℕ) ReadRefusal → Type 0
LoadsHeld None limit result = ⊤
LoadsHeld (Some held) limit (Ok text) = text ≡ held
LoadsHeld (Some held) limit (Err Failed) = ⊤
LoadsHeld (Some held) limit (Err TooLarge) = limit < length held
LoadsHeld (Some held) limit (Err NoMemory) = ⊤

-- what `replace` leaves: the new text; after an error nothing is said of what is held
abbrev pub HoldsNew : Option (List ℕ) → Option (List ℕ) → Result ⊤ IoRefusal → List ℕ → Type 0
HoldsNew None now result content = ⊤
HoldsNew (Some held) now (Ok done) content = now ≡ Some content
HoldsNew (Some held) now (Err refusal) content = ⊤
