-- What the calls answer, by their definitions.
use Rattle.std.specs.Prelude.{◌≡◌, ⊤, ℕ, Bool, true, false, List, [], ◌∷◌, ◌++◌, Option, Some, None, Result, Ok, Err}
use Rattle.init_machine.specs.declared.output.Cause.{Cause}
use Rattle.init_machine.specs.declared.output.Cause.TheVariants as cause
use Rattle.prop_rules.specs.declared.expansion.ExpandRefusal.{ExpandRefusal}
use Rattle.prop_rules.specs.declared.expansion.ExpandRefusal.TheVariants.{BadForm, Absent, TooLong, NoMemory}

-- why there is no answer; want of memory may come in place of any
abbrev pub IsRefusal : ExpandRefusal → Result (List ℕ) Cause → Type 0
IsRefusal (BadForm place) answer = answer ≡ Err (cause.BadForm place)
IsRefusal (Absent name) answer = answer ≡ Err (cause.Absent name)
IsRefusal TooLong answer = answer ≡ Err cause.TooLong
IsRefusal NoMemory answer = ⊤

-- the expanded text, or why there is none
abbrev pub IsExpansion : Result (List ℕ) ExpandRefusal → Result (List ℕ) Cause → Type 0
IsExpansion (Ok text) answer = answer ≡ Ok text
IsExpansion (Err refusal) answer = IsRefusal refusal answer

-- the bytes now are those of the answer, or there is a reason why they can't be
abbrev pub IsAppended : {T : Type 0} → Result T ExpandRefusal → List ℕ → Result (List ℕ) Cause → Type 0
IsAppended (Ok done) bytes answer = answer ≡ Ok bytes
IsAppended (Err refusal) bytes answer = IsRefusal refusal answer

-- a value that isn't empty joins the bytes, and it is told whether there is one
abbrev pub AppendsValue : Result Bool ExpandRefusal → List ℕ → List ℕ → Option (List ℕ) → Type 0
AppendsValue (Ok found) old new None = (found ≡ false) × (new ≡ old)
AppendsValue (Ok found) old new (Some []) = (found ≡ false) × (new ≡ old)
AppendsValue (Ok found) old new (Some (b ∷ value)) = (found ≡ true) × (new ≡ old ++ b ∷ value)
AppendsValue (Err refusal) old new value = refusal ≡ NoMemory
