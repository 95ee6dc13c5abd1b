-- What reading a source to its end answers.
use Rattle.std.specs.Prelude.{◌≡◌, ℕ, ◌<◌, ⊤, List, [], length, Option, Some, None, Result, Ok, Err}
use Rattle.init_base.specs.declared.outside.refusal.ReadRefusal.{ReadRefusal}
use Rattle.init_base.specs.declared.outside.refusal.ReadRefusal.TheVariants.{Failed, TooLarge, NoMemory}

-- where the source tells what is left: all of it, and nothing is left then; or that there is more than the limit says
abbrev pub ReadsAll : Option (List ℕ) → Option (List ℕ) → ℕ → Result (List ℕ) ReadRefusal → Type 0
ReadsAll None left limit result = ⊤
ReadsAll (Some told) left limit (Ok text) = (told ≡ text) × (left ≡ Some [])
ReadsAll (Some told) left limit (Err TooLarge) = limit < length told
ReadsAll (Some told) left limit (Err Failed) = ⊤
ReadsAll (Some told) left limit (Err NoMemory) = ⊤
