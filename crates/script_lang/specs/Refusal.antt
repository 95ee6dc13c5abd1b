-- What the reader of scripts answers where it gives no script.
use Rattle.std.specs.Prelude.{◌≡◌, ℕ, ◌<◌, ◌≤◌, ⊤, List, length}
use Rattle.init_machine.specs.declared.limit.Limit.{Limit}
use Rattle.init_machine.specs.declared.limit.Limit.TheVariants as limit
use Rattle.script_lang.specs.Lines.{lines_of}
use Rattle.script_lang.specs.Script.{IsFirstBad, IsWithinLimits, total_steps}
use Rattle.script_lang.specs.declared.refusal.ScriptRefusal.{ScriptRefusal}
use Rattle.script_lang.specs.declared.refusal.ScriptRefusal.TheVariants.{TooLarge, BadLine, NoMemory}

-- A limit of scripts that the bytes pass, where they pass none of those before it: bytes, lines, steps. The number is what
-- was found, and of bytes the limit and one more.
abbrev pub IsTooLarge : List ℕ → Limit → ℕ → Type 0
IsTooLarge bytes limit.ScriptBytes number = (16777216 < length bytes) × (number ≡ 16777217)
IsTooLarge bytes limit.ScriptLines number =
    (length bytes ≤ 16777216) × (100000 < length (lines_of bytes)) × (number ≡ length (lines_of bytes))
IsTooLarge bytes limit.Steps number =
    (length bytes ≤ 16777216) × (length (lines_of bytes) ≤ 100000) × (1000000 < total_steps (lines_of bytes)) × (number ≡ total_steps (lines_of bytes))
IsTooLarge bytes limit.FileBytes number = ⊥
IsTooLarge bytes limit.Files number = ⊥
IsTooLarge bytes limit.Names number = ⊥
IsTooLarge bytes limit.RcBytes number = ⊥
IsTooLarge bytes limit.StoreBytes number = ⊥
IsTooLarge bytes limit.TraceBytes number = ⊥

-- the bytes are within all limits, and this line is the first bad one
pub record IsBadAt (bytes : List ℕ) (line : ℕ) : Type 0 where
  pub within : IsWithinLimits bytes
  pub first_bad : IsFirstBad (lines_of bytes) line

-- why the bytes are no script; want of memory is free
abbrev pub IsRefused : List ℕ → ScriptRefusal → Type 0
IsRefused bytes (TooLarge limit number) = IsTooLarge bytes limit number
IsRefused bytes (BadLine line) = IsBadAt bytes line
IsRefused bytes NoMemory = ⊤

-- the bytes pass a limit; want of memory is free
abbrev pub IsOverLimit : List ℕ → ScriptRefusal → Type 0
IsOverLimit bytes (TooLarge limit number) = IsTooLarge bytes limit number
IsOverLimit bytes (BadLine line) = ⊥
IsOverLimit bytes NoMemory = ⊤
