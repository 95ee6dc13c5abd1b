-- Which reports a program can hold: each number is below 2 ^ 64. The types of the fields say so; in a law over all
-- reports a number has no bound of its own.
use Rattle.std.specs.Prelude.{ℕ, ◌^◌, ◌<◌, ⊤}
use Rattle.std.specs.List.{AllByRecursion}
use Rattle.init_machine.specs.declared.diagnostic.Diagnostic.{Diagnostic}
use Rattle.init_machine.specs.declared.input.Input.{Input}
use Rattle.init_machine.specs.declared.input.Input.TheVariants as input
use Rattle.init_machine.specs.declared.output.Cause.{Cause}
use Rattle.init_machine.specs.declared.output.Cause.TheVariants as cause
use Rattle.init_machine.specs.declared.output.How.{How}
use Rattle.init_machine.specs.declared.output.How.TheVariants as how
use Rattle.init_machine.specs.declared.output.Output.{Output}
use Rattle.init_machine.specs.declared.output.Output.TheVariants as output
use Rattle.init_machine.specs.declared.output.SetRefusal.{SetRefusal}
use Rattle.init_machine.specs.declared.output.SetRefusal.TheVariants as refusal
use Rattle.init_machine.specs.declared.report.ClientPart.{ClientPart}
use Rattle.init_machine.specs.declared.report.Entry.{Entry}
use Rattle.init_machine.specs.declared.report.Reading.{Reading}
use Rattle.init_machine.specs.declared.report.Reading.TheVariants as reading
use Rattle.init_machine.specs.declared.report.Report.{Report}

abbrev pub Fits64 : ℕ → Type 0
Fits64 number = number < 2 ^ 64

abbrev pub RefusalInRange : SetRefusal → Type 0
RefusalInRange (refusal.ValueTooLong len) = Fits64 len
RefusalInRange (refusal.ReadOnly number) = Fits64 number
RefusalInRange (refusal.AreaFull used need) = Fits64 used × Fits64 need
RefusalInRange (refusal.NumberSpent last) = Fits64 last
RefusalInRange _ = ⊤

abbrev pub CauseInRange : Cause → Type 0
CauseInRange (cause.BadForm place) = Fits64 place
CauseInRange (cause.BadArgument number) = Fits64 number
CauseInRange (cause.Set refusal) = RefusalInRange refusal
CauseInRange _ = ⊤

abbrev pub HowInRange : How → Type 0
HowInRange (how.Exit status) = Fits64 status
HowInRange how.Killed = ⊤

abbrev pub OutputInRange : Output → Type 0
OutputInRange (output.Action file line) = Fits64 line
OutputInRange (output.Command file line word args) = Fits64 line
OutputInRange (output.Put number name value) = Fits64 number
OutputInRange (output.Unset name refusal) = RefusalInRange refusal
OutputInRange (output.Spawn pid name path) = Fits64 pid.0
OutputInRange (output.Kill pid name) = Fits64 pid.0
OutputInRange (output.Reap pid name how) = Fits64 pid.0 × HowInRange how
OutputInRange (output.Failed cause) = CauseInRange cause
OutputInRange (output.WaitChild pid) = Fits64 pid.0
OutputInRange (output.WaitFile path until) = Fits64 until.0
OutputInRange (output.Accepted number) = Fits64 number
OutputInRange (output.Control number) = Fits64 number
OutputInRange (output.Refused refusal) = RefusalInRange refusal
OutputInRange _ = ⊤

abbrev pub InputInRange : Input → Type 0
InputInRange (input.Tick ms) = Fits64 ms
InputInRange (input.Exit name status) = Fits64 status
InputInRange (input.Set who name value) = Fits64 who.0
InputInRange _ = ⊤

abbrev pub ReadingInRange : Reading → Type 0
ReadingInRange (reading.Found name number value) = Fits64 number
ReadingInRange (reading.Absent name number) = Fits64 number
ReadingInRange (reading.Again name number first second) = Fits64 number × Fits64 first × Fits64 second
ReadingInRange (reading.Synced number) = Fits64 number
ReadingInRange (reading.Caught number) = Fits64 number

abbrev pub DiagnosticInRange : Diagnostic → Type 0
DiagnosticInRange d = Fits64 d.line

abbrev pub EntryInRange : Entry → Type 0
EntryInRange entry = InputInRange entry.input × AllByRecursion OutputInRange entry.outputs

abbrev pub PartInRange : ClientPart → Type 0
PartInRange part = AllByRecursion ReadingInRange part.readings

pub record InRange (report : Report) : Type 0 where
  pub diagnostics : AllByRecursion DiagnosticInRange report.diagnostics
  pub history : AllByRecursion EntryInRange report.history
  pub clients : AllByRecursion PartInRange report.clients
