-- Which reports a program can hold: each number fits the type of its field, each text is bytes, and there
-- are fewer than 2 ^ 64 clients. The types say so; in a law over all reports a number has no bound of its own.
use Rattle.std.specs.Prelude.{ℕ, ◌<◌, ◌^◌, ⊤, IsTrue, List, length}
use Rattle.std.specs.List.{AllByRecursion, list_all}
use Rattle.init_base.specs.Quoted.{is_byte}
use Rattle.init_machine.specs.declared.diagnostic.Diagnostic.{Diagnostic}
use Rattle.init_machine.specs.declared.input.Input.{Input}
use Rattle.init_machine.specs.declared.input.Input.TheVariants as input
use Rattle.init_machine.specs.declared.output.Cause.{Cause}
use Rattle.init_machine.specs.declared.output.Cause.TheVariants as cause
use Rattle.init_machine.specs.declared.output.How.{How}
use Rattle.init_machine.specs.declared.output.How.TheVariants as how
use Rattle.init_machine.specs.declared.output.Output.{Output}
use Rattle.init_machine.specs.declared.output.Output.TheVariants as output
use Rattle.init_machine.specs.declared.output.SetRefusal.{SetRefusal}
use Rattle.init_machine.specs.declared.output.SetRefusal.TheVariants as refusal
use Rattle.init_machine.specs.declared.report.ClientPart.{ClientPart}
use Rattle.init_machine.specs.declared.report.Entry.{Entry}
use Rattle.init_machine.specs.declared.report.Reading.{Reading}
use Rattle.init_machine.specs.declared.report.Reading.TheVariants as reading
use Rattle.init_machine.specs.declared.report.Report.{Report}

abbrev pub IsText : List ℕ → Type 0
IsText text = IsTrue (list_all is_byte text)

abbrev pub Fits8 : ℕ → Type 0
Fits8 number = number < 2 ^ 8

abbrev pub Fits32 : ℕ → Type 0
Fits32 number = number < 2 ^ 32

abbrev pub Fits64 : ℕ → Type 0
Fits64 number = number < 2 ^ 64

abbrev pub RefusalIsHeld : SetRefusal → Type 0
RefusalIsHeld (refusal.Down target) = IsText target
RefusalIsHeld (refusal.Denied context) = IsText context
RefusalIsHeld (refusal.ValueTooLong len) = Fits64 len
RefusalIsHeld (refusal.ReadOnly number) = Fits64 number
RefusalIsHeld (refusal.AreaFull used need) = Fits64 used × Fits64 need
RefusalIsHeld (refusal.NumberSpent last) = Fits64 last
RefusalIsHeld _ = ⊤

abbrev pub CauseIsHeld : Cause → Type 0
CauseIsHeld (cause.Absent name) = IsText name
CauseIsHeld (cause.BadForm place) = Fits64 place
CauseIsHeld (cause.NoSuchService name) = IsText name
CauseIsHeld (cause.AlreadyRunning name) = IsText name
CauseIsHeld (cause.BadArgument number) = Fits64 number
CauseIsHeld (cause.Set refusal) = RefusalIsHeld refusal
CauseIsHeld _ = ⊤

abbrev pub HowIsHeld : How → Type 0
HowIsHeld (how.Exit status) = Fits8 status
HowIsHeld how.Killed = ⊤

abbrev pub OutputIsHeld : Output → Type 0
OutputIsHeld (output.Event name) = IsText name
OutputIsHeld (output.Change name value) = IsText name × IsText value
OutputIsHeld (output.Action file line) = IsText file × Fits32 line
OutputIsHeld (output.Command file line word args) = IsText file × Fits32 line × AllByRecursion IsText args
OutputIsHeld (output.Put number name value) = Fits64 number × IsText name × IsText value
OutputIsHeld (output.Stored name) = IsText name
OutputIsHeld (output.Unset name refusal) = IsText name × RefusalIsHeld refusal
OutputIsHeld (output.Spawn pid name path) = Fits32 pid.0 × IsText name × IsText path
OutputIsHeld (output.NoPid name) = IsText name
OutputIsHeld (output.Kill pid name) = Fits32 pid.0 × IsText name
OutputIsHeld (output.Reap pid name how) = Fits32 pid.0 × IsText name × HowIsHeld how
OutputIsHeld (output.Env name value) = IsText name × IsText value
OutputIsHeld (output.Tree path) = IsText path
OutputIsHeld (output.Failed cause) = CauseIsHeld cause
OutputIsHeld (output.WaitChild pid) = Fits32 pid.0
OutputIsHeld (output.WaitProp name value) = IsText name × IsText value
OutputIsHeld (output.WaitFile path until) = IsText path × Fits64 until.0
OutputIsHeld (output.Reboot target) = IsText target
OutputIsHeld (output.Accepted number) = Fits64 number
OutputIsHeld (output.Control number) = Fits64 number
OutputIsHeld (output.Refused refusal) = RefusalIsHeld refusal
OutputIsHeld _ = ⊤

abbrev pub InputIsHeld : Input → Type 0
InputIsHeld (input.Tick ms) = Fits64 ms
InputIsHeld (input.Exit name status) = IsText name × Fits8 status
InputIsHeld (input.File path content) = IsText path × IsText content
InputIsHeld (input.Set who name value) = Fits32 who.0 × IsText name × IsText value
InputIsHeld _ = ⊤

abbrev pub ReadingIsHeld : Reading → Type 0
ReadingIsHeld (reading.Found name number value) = IsText name × Fits64 number × IsText value
ReadingIsHeld (reading.Absent name number) = IsText name × Fits64 number
ReadingIsHeld (reading.Again name number first second) = IsText name × Fits64 number × Fits64 first × Fits64 second
ReadingIsHeld (reading.Synced number) = Fits64 number
ReadingIsHeld (reading.Caught number) = Fits64 number

abbrev pub DiagnosticIsHeld : Diagnostic → Type 0
DiagnosticIsHeld d = IsText d.file × Fits32 d.line

abbrev pub EntryIsHeld : Entry → Type 0
EntryIsHeld entry = InputIsHeld entry.input × AllByRecursion OutputIsHeld entry.outputs

abbrev pub PartIsHeld : ClientPart → Type 0
PartIsHeld part = IsText part.name × IsText part.domain × AllByRecursion ReadingIsHeld part.readings

pub record IsHeld (report : Report) : Type 0 where
  pub diagnostics : AllByRecursion DiagnosticIsHeld report.diagnostics
  pub history : AllByRecursion EntryIsHeld report.history
  pub clients : AllByRecursion PartIsHeld report.clients
  pub count : Fits64 (length report.clients)
