-- Which reports have a text: those in which neither `Spent` nor `NoMemory` stands. Those are answers of the library's
-- calls alone: the numbers of a test store are spent, and want of memory. No run leaves one.
use Rattle.std.specs.Prelude.{⊤}
use Rattle.std.specs.List.{AllByRecursion}
use Rattle.init_machine.specs.declared.output.Cause.{Cause}
use Rattle.init_machine.specs.declared.output.Cause.TheVariants as cause
use Rattle.init_machine.specs.declared.output.FsRefusal.{FsRefusal}
use Rattle.init_machine.specs.declared.output.FsRefusal.TheVariants as tree
use Rattle.init_machine.specs.declared.output.Output.{Output}
use Rattle.init_machine.specs.declared.output.Output.TheVariants as output
use Rattle.init_machine.specs.declared.output.SetRefusal.{SetRefusal}
use Rattle.init_machine.specs.declared.output.SetRefusal.TheVariants as refusal
use Rattle.init_machine.specs.declared.report.Entry.{Entry}
use Rattle.init_machine.specs.declared.report.Report.{Report}

abbrev pub RefusalHasText : SetRefusal → Type 0
RefusalHasText refusal.Spent = ⊥
RefusalHasText refusal.NoMemory = ⊥
RefusalHasText _ = ⊤

abbrev pub TreeHasText : FsRefusal → Type 0
TreeHasText tree.NoMemory = ⊥
TreeHasText _ = ⊤

abbrev pub CauseHasText : Cause → Type 0
CauseHasText (cause.Tree kind) = TreeHasText kind
CauseHasText (cause.Set refusal) = RefusalHasText refusal
CauseHasText _ = ⊤

abbrev pub OutputHasText : Output → Type 0
OutputHasText (output.Unset name refusal) = RefusalHasText refusal
OutputHasText (output.Failed cause) = CauseHasText cause
OutputHasText (output.Refused refusal) = RefusalHasText refusal
OutputHasText _ = ⊤

-- neither stands in an output of an entry
abbrev pub EntryHasText : Entry → Type 0
EntryHasText entry = AllByRecursion OutputHasText entry.outputs

abbrev pub HasText : Report → Type 0
HasText report = AllByRecursion EntryHasText report.history
