-- What is written of a check and of a run.
use Rattle.std.proofs.Common.{ℕ, List, Option, refl, inr}
use Rattle.init_machine.specs.declared.config.Config.{Config}
use Rattle.init_machine.specs.declared.diagnostic.Diagnostic.{Diagnostic}
use Rattle.init_trace.specs.Report.{DiagnosticsText}
use Rattle.job_reader.specs.Check.{CheckWrites, IsCheckText}
use Rattle.job_reader.specs.Prepared.{WritesText}
use Rattle.job_reader.specs.Tree.{IsFitFor, IsLoadOf, TreeSays}
use Rattle.job_reader.specs.Tree.Purpose.{ToCheck}
use Rattle.job_reader.specs.declared.status.Status.{Status}
use Rattle.job_reader.specs.declared.status.Status.TheVariants as status
use Rattle.rc_import.specs.World.{World}

-- ---- a check

loadable : (world : World) (config : Config) (diagnostics : List Diagnostic) → IsLoadOf world config diagnostics → IsFitFor ToCheck world
loadable world config diagnostics load = (tt, (load.short, (load.loaded, load.rc_files)))

pub check_says : (world : World) (config : Config) (diagnostics : List Diagnostic) (old new : Option (List ℕ)) (how : Status)
    → IsLoadOf world config diagnostics → WritesText (DiagnosticsText diagnostics) old new how → TreeSays ToCheck world how
check_says world config diagnostics old new status.Done load writes = loadable world config diagnostics load
check_says world config diagnostics old new status.WriteFault load writes = loadable world config diagnostics load
check_says world config diagnostics old new status.NoMemory load writes = tt
check_says world config diagnostics old new status.ReadFault load writes = tt
check_says world config diagnostics old new status.Usage load writes = tt
check_says world config diagnostics old new (status.BadScript line) load writes = tt
check_says world config diagnostics old new status.NoInit load writes = absurd writes
check_says world config diagnostics old new (status.TooLarge limit number) load writes = absurd writes
check_says world config diagnostics old new (status.BadPolicy allow line) load writes = absurd writes
check_says world config diagnostics old new (status.BadStore line why) load writes = absurd writes
check_says world config diagnostics old new (status.BadWire at) load writes = absurd writes
check_says world config diagnostics old new status.BadTrace load writes = absurd writes

check_text : (world : World) (config : Config) (diagnostics : List Diagnostic)
    → IsLoadOf world config diagnostics → IsCheckText world (DiagnosticsText diagnostics)
check_text world config diagnostics load = record { config = config; diagnostics = diagnostics; load = load; printed = refl }

pub check_writes : (world : World) (config : Config) (diagnostics : List Diagnostic) (old new : Option (List ℕ)) (how : Status)
    → IsLoadOf world config diagnostics → WritesText (DiagnosticsText diagnostics) old new how → CheckWrites world old new how
check_writes world config diagnostics old new status.Done load writes =
    (DiagnosticsText diagnostics, check_text world config diagnostics load, writes)
check_writes world config diagnostics old new status.WriteFault load writes =
    (DiagnosticsText diagnostics, check_text world config diagnostics load, writes)
check_writes world config diagnostics old new status.NoMemory load writes =
    inr (DiagnosticsText diagnostics, check_text world config diagnostics load, writes)
check_writes world config diagnostics old new status.ReadFault load writes = absurd writes
check_writes world config diagnostics old new status.Usage load writes = absurd writes
check_writes world config diagnostics old new (status.BadScript line) load writes = absurd writes
check_writes world config diagnostics old new status.NoInit load writes = absurd writes
check_writes world config diagnostics old new (status.TooLarge limit number) load writes = absurd writes
check_writes world config diagnostics old new (status.BadPolicy allow line) load writes = absurd writes
check_writes world config diagnostics old new (status.BadStore line why) load writes = absurd writes
check_writes world config diagnostics old new (status.BadWire at) load writes = absurd writes
check_writes world config diagnostics old new status.BadTrace load writes = absurd writes
