-- The count of faults of an object of the outside. It is a u64 that stays at its largest value, which counts as
-- risen.
use Rattle.std.specs.Prelude.{◌≡◌, ℕ, ◌+◌, ◌-◌, ◌^◌, ◌≤◌, min, Bool, true, false, Result, Ok, Err}
use Rattle.init_base.specs.declared.outside.refusal.Failed.{Failed}
use Rattle.init_base.specs.declared.outside.refusal.IoRefusal.{IoRefusal}
use Rattle.init_base.specs.declared.outside.refusal.IoRefusal.TheVariants as io
use Rattle.init_base.specs.declared.outside.refusal.ReadRefusal.{ReadRefusal}
use Rattle.init_base.specs.declared.outside.refusal.ReadRefusal.TheVariants as reading

-- a count rose, or stands at its largest value
abbrev pub Rose : ℕ → ℕ → Type 0
Rose before now = min (before + 1) (2 ^ 64 - 1) ≤ now

-- the count of one call: it rises where the call failed, and else stays as it was
abbrev pub Counted : Bool → ℕ → ℕ → Type 0
Counted true before now = Rose before now
Counted false before now = now ≡ before

-- whether a read of a source answered a fault
abbrev pub source_failed : Result ℕ Failed → Bool
source_failed (Ok count) = false
source_failed (Err refusal) = true

-- whether a write answered a fault
abbrev pub write_failed : {T : Type 0} → Result T IoRefusal → Bool
write_failed (Ok value) = false
write_failed (Err io.Failed) = true
write_failed (Err io.NoMemory) = false

-- whether a call that reads a text or names answered a fault
abbrev pub read_failed : {T : Type 0} → Result T ReadRefusal → Bool
read_failed (Ok value) = false
read_failed (Err reading.Failed) = true
read_failed (Err reading.TooLarge) = false
read_failed (Err reading.NoMemory) = false
