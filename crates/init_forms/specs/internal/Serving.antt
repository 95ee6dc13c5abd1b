-- The statuses of the serving of messages, once the machine has booted.
use Rattle.std.specs.Prelude.{◌≡◌, ℕ, ⊤, Result, Ok, Err}
use Rattle.init_machine.specs.declared.limit.Limit.TheVariants as limits
use Rattle.job_reader.specs.declared.status.Status.{Status}
use Rattle.job_reader.specs.declared.status.Status.TheVariants as status
use Rattle.prop_wire.specs.declared.refusal.WireRefusal.{WireRefusal}
use Rattle.prop_wire.specs.declared.refusal.WireRefusal.TheVariants as refusal

-- the status after a stream that isn't served to its end
abbrev pub status_after : WireRefusal → Status
status_after refusal.Spent = status.NoMemory
status_after (refusal.BadCommand at word) = status.BadWire at
status_after (refusal.BadLength at len) = status.BadWire at
status_after (refusal.TooLong taken) = status.TooLarge limits.ScriptBytes taken
status_after (refusal.Torn at) = status.BadWire at
status_after refusal.ReadFault = status.ReadFault
status_after refusal.WriteFault = status.WriteFault
status_after refusal.NoMemory = status.NoMemory

-- the status after a stream
abbrev pub status_of_serving : Result ℕ WireRefusal → Status
status_of_serving (Ok count) = status.Done
status_of_serving (Err why) = status_after why

-- a stream has one of these statuses
abbrev pub IsOfStream : Status → Type 0
IsOfStream status.Done = ⊤
IsOfStream status.Usage = ⊥
IsOfStream status.ReadFault = ⊤
IsOfStream status.WriteFault = ⊤
IsOfStream status.NoMemory = ⊤
IsOfStream (status.BadScript line) = ⊥
IsOfStream status.NoInit = ⊥
IsOfStream (status.TooLarge limit number) = limit ≡ limits.ScriptBytes
IsOfStream (status.BadPolicy allow line) = ⊥
IsOfStream (status.BadStore line why) = ⊥
IsOfStream (status.BadWire at) = ⊤
IsOfStream status.BadTrace = ⊥
