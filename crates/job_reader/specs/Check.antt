-- What a check writes.
use Rattle.std.specs.Prelude.{◌≡◌, ℕ, ◌⊎◌, ⊤, List, Option}
use Rattle.std.specs.Io.KnownBytes.{append_known}
use Rattle.init_machine.specs.declared.config.Config.{Config}
use Rattle.init_machine.specs.declared.diagnostic.Diagnostic.{Diagnostic}
use Rattle.init_machine.specs.declared.limit.Limit.{Limit}
use Rattle.init_machine.specs.declared.limit.Limit.TheVariants as limits
use Rattle.init_trace.specs.Report.{DiagnosticsText}
use Rattle.init_trace.specs.Written.{TakesFront}
use Rattle.rc_import.specs.World.{World}
use Rattle.job_reader.specs.Tree.{IsLoadOf}
use Rattle.job_reader.specs.declared.status.Status.{Status}
use Rattle.job_reader.specs.declared.status.Status.TheVariants as status

-- the text of a check: that of the diagnostics of a world
pub record IsCheckText (world : World) (text : List ℕ) : Type 0 where
  pub config : Config
  pub diagnostics : List Diagnostic
  pub load : IsLoadOf world config diagnostics
  pub printed : text ≡ DiagnosticsText diagnostics

-- what a check of a world writes
abbrev pub CheckWrites : World → Option (List ℕ) → Option (List ℕ) → Status → Type 0
CheckWrites world old new status.Done = (text : List ℕ) × IsCheckText world text × (new ≡ append_known old text)
CheckWrites world old new status.WriteFault = (text : List ℕ) × IsCheckText world text × TakesFront old new text
CheckWrites world old new status.NoMemory = (new ≡ old) ⊎ ((text : List ℕ) × IsCheckText world text × TakesFront old new text)
CheckWrites world old new status.ReadFault = new ≡ old
CheckWrites world old new status.Usage = new ≡ old
CheckWrites world old new (status.BadScript line) = new ≡ old
CheckWrites world old new (status.BadPolicy allow line) = new ≡ old
CheckWrites world old new status.NoInit = new ≡ old
CheckWrites world old new (status.TooLarge limit number) = new ≡ old
CheckWrites world old new (status.BadStore line why) = new ≡ old
CheckWrites world old new (status.BadWire at) = new ≡ old
CheckWrites world old new status.BadTrace = new ≡ old

-- a limit of the files of a tree
abbrev pub IsTreeLimit : Limit → Type 0
IsTreeLimit limits.FileBytes = ⊤
IsTreeLimit limits.Files = ⊤
IsTreeLimit limits.Names = ⊤
IsTreeLimit limits.RcBytes = ⊤
IsTreeLimit limits.ScriptBytes = ⊥
IsTreeLimit limits.ScriptLines = ⊥
IsTreeLimit limits.Steps = ⊥
IsTreeLimit limits.StoreBytes = ⊥
IsTreeLimit limits.TraceBytes = ⊥

-- a status that a check may have: it reads no script, no policy, no store and no trace
abbrev pub IsCheckStatus : Status → Type 0
IsCheckStatus status.Done = ⊤
IsCheckStatus status.Usage = ⊥
IsCheckStatus status.ReadFault = ⊤
IsCheckStatus status.WriteFault = ⊤
IsCheckStatus status.NoMemory = ⊤
IsCheckStatus (status.BadScript line) = ⊥
IsCheckStatus status.NoInit = ⊤
IsCheckStatus (status.TooLarge limit number) = IsTreeLimit limit
IsCheckStatus (status.BadPolicy allow line) = ⊥
IsCheckStatus (status.BadStore line why) = ⊥
IsCheckStatus (status.BadWire at) = ⊥
IsCheckStatus status.BadTrace = ⊥
