-- Why a stream isn't served to its end.
use Rattle.std.specs.Prelude.{Bool, true, false, Result, Err}
use Rattle.init_base.specs.declared.outside.refusal.IoRefusal.{IoRefusal}
use Rattle.init_base.specs.declared.outside.refusal.IoRefusal.TheVariants as io
use Rattle.prop_wire.specs.declared.refusal.WireRefusal.{WireRefusal}
use Rattle.prop_wire.specs.declared.refusal.WireRefusal.TheVariants as refusal

-- the refusal by which a refused write stops the service
abbrev pub refusal_of : IoRefusal → WireRefusal
refusal_of io.Failed = refusal.WriteFault
refusal_of io.NoMemory = refusal.NoMemory

-- whether a read answered a fault
abbrev pub is_read_fault : {T : Type 0} → Result T WireRefusal → Bool
is_read_fault (Err refusal.ReadFault) = true
is_read_fault _ = false

-- whether a write answered a fault
abbrev pub is_write_fault : {T : Type 0} → Result T WireRefusal → Bool
is_write_fault (Err refusal.WriteFault) = true
is_write_fault _ = false
