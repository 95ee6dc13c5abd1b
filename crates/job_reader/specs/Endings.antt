-- Which statuses a run, an audit and the serving of messages may have. (A check's stand in `Check.antt`.)
use Rattle.std.specs.Prelude.{⊤}
use Rattle.init_machine.specs.declared.limit.Limit.{Limit}
use Rattle.init_machine.specs.declared.limit.Limit.TheVariants as limits
use Rattle.job_reader.specs.declared.status.Status.{Status}
use Rattle.job_reader.specs.declared.status.Status.TheVariants as status

-- a run reads no trace
abbrev pub IsRunLimit : Limit → Type 0
IsRunLimit limits.TraceBytes = ⊥
IsRunLimit limits.StoreBytes = ⊤
IsRunLimit limits.ScriptBytes = ⊤
IsRunLimit limits.ScriptLines = ⊤
IsRunLimit limits.Steps = ⊤
IsRunLimit limits.FileBytes = ⊤
IsRunLimit limits.Files = ⊤
IsRunLimit limits.Names = ⊤
IsRunLimit limits.RcBytes = ⊤

abbrev pub IsRunStatus : Status → Type 0
IsRunStatus status.Done = ⊤
IsRunStatus status.Usage = ⊥
IsRunStatus status.ReadFault = ⊤
IsRunStatus status.WriteFault = ⊤
IsRunStatus status.NoMemory = ⊤
IsRunStatus (status.BadScript line) = ⊤
IsRunStatus status.NoInit = ⊤
IsRunStatus (status.TooLarge limit number) = IsRunLimit limit
IsRunStatus (status.BadPolicy allow line) = ⊤
IsRunStatus (status.BadStore line why) = ⊤
IsRunStatus (status.BadWire at) = ⊥
IsRunStatus status.BadTrace = ⊥

abbrev pub IsAuditStatus : Status → Type 0
IsAuditStatus status.Done = ⊤
IsAuditStatus status.Usage = ⊥
IsAuditStatus status.ReadFault = ⊤
IsAuditStatus status.WriteFault = ⊤
IsAuditStatus status.NoMemory = ⊤
IsAuditStatus (status.BadScript line) = ⊤
IsAuditStatus status.NoInit = ⊤
IsAuditStatus (status.TooLarge limit number) = ⊤
IsAuditStatus (status.BadPolicy allow line) = ⊤
IsAuditStatus (status.BadStore line why) = ⊤
IsAuditStatus (status.BadWire at) = ⊥
IsAuditStatus status.BadTrace = ⊤

-- the serving of messages reads no script and no trace; of their stream it may say that it has too many bytes
abbrev pub IsWireLimit : Limit → Type 0
IsWireLimit limits.TraceBytes = ⊥
IsWireLimit limits.StoreBytes = ⊤
IsWireLimit limits.ScriptBytes = ⊤
IsWireLimit limits.ScriptLines = ⊥
IsWireLimit limits.Steps = ⊥
IsWireLimit limits.FileBytes = ⊤
IsWireLimit limits.Files = ⊤
IsWireLimit limits.Names = ⊤
IsWireLimit limits.RcBytes = ⊤

abbrev pub IsWireStatus : Status → Type 0
IsWireStatus status.Done = ⊤
IsWireStatus status.Usage = ⊥
IsWireStatus status.ReadFault = ⊤
IsWireStatus status.WriteFault = ⊤
IsWireStatus status.NoMemory = ⊤
IsWireStatus (status.BadScript line) = ⊥
IsWireStatus status.NoInit = ⊤
IsWireStatus (status.TooLarge limit number) = IsWireLimit limit
IsWireStatus (status.BadPolicy allow line) = ⊤
IsWireStatus (status.BadStore line why) = ⊤
IsWireStatus (status.BadWire at) = ⊤
IsWireStatus status.BadTrace = ⊥
