-- What the race of a course writes, and what it leaves with the keeper.
use Rattle.std.specs.Prelude.{◌≡◌, ℕ, ◌⊎◌, List, [], Option}
use Rattle.std.specs.Io.KnownBytes.{append_known}
use Rattle.init_driver.specs.Keeper.{KeeperView, Risks, Took}
use Rattle.init_driver.specs.declared.refusal.DriveRefusal.{DriveRefusal}
use Rattle.init_driver.specs.declared.refusal.DriveRefusal.TheVariants as refusal
use Rattle.init_machine.specs.declared.report.Report.{Report}
use Rattle.init_dispatch.specs.Dispatched.{IsDispatched as IsDispatchedBy}
use Rattle.init_race.specs.Race.{race_given}
use Rattle.init_trace.specs.Report.{TextOf}
use Rattle.init_trace.specs.Written.{TakesFront}
use Rattle.job_reader.specs.Run.{Course}
use Rattle.job_reader.specs.declared.status.Status.{Status}
use Rattle.job_reader.specs.declared.status.Status.TheVariants as status
use Rattle.trace_audit.specs.Audited.{Audited}

-- a report that the audit of traces answers Yes to
abbrev pub IsAudited : Course → Report → Type 0
IsAudited course report = Audited course.opening course.diagnostics course.script report

-- a report that one worker may have left, behind which the sessions' sets stand in the order in which it took them
abbrev pub IsRelayedReport : Course → Report → Type 0
IsRelayedReport course report = IsDispatchedBy course.opening course.diagnostics course.script report

-- the report's text is written whole, and the keeper took what the race gives it
abbrev pub WritesRace : Course → Report → Option (List ℕ) → Option (List ℕ) → KeeperView → KeeperView → Type 0
WritesRace course report old new keeper kept =
    (new ≡ append_known old (TextOf report)) × Took keeper kept (race_given course.opening report.history)

-- a front of the text is written, and the keeper took what the race gives it
abbrev pub WritesFront : Course → Report → Option (List ℕ) → Option (List ℕ) → KeeperView → KeeperView → Type 0
WritesFront course report old new keeper kept =
    TakesFront old new (TextOf report) × Took keeper kept (race_given course.opening report.history)

-- nothing is written, and the keeper may or may not have taken what the race gives it
abbrev pub WritesNothing : Course → Report → Option (List ℕ) → Option (List ℕ) → KeeperView → KeeperView → Type 0
WritesNothing course report old new keeper kept =
    (new ≡ old) × (keeper.TellsCrash → Risks keeper kept [] (race_given course.opening report.history))

-- The text of a race is cut short. The keeper is asked before anything is written.
abbrev pub CutsRace : DriveRefusal → Course → Report → Option (List ℕ) → Option (List ℕ) → KeeperView → KeeperView → Type 0
CutsRace refusal.Keeper course report old new keeper kept = WritesNothing course report old new keeper kept
CutsRace refusal.Write course report old new keeper kept = WritesFront course report old new keeper kept
CutsRace refusal.NoMemory course report old new keeper kept =
    WritesFront course report old new keeper kept ⊎ WritesNothing course report old new keeper kept

-- What a race or a dispatch of a course leaves, in the sink and with the keeper, by what a report of it is. Memory may run out before there
-- is a report.
abbrev pub PerformsRace : (Course → Report → Type 0) → Course → Option (List ℕ) → Option (List ℕ) → KeeperView → KeeperView → Status → Type 0
PerformsRace Is course old new keeper kept status.Done =
    (report : Report) × Is course report × WritesRace course report old new keeper kept
PerformsRace Is course old new keeper kept status.WriteFault =
    (report : Report) × Is course report × CutsRace refusal.Write course report old new keeper kept
PerformsRace Is course old new keeper kept status.ReadFault =
    (report : Report) × Is course report × CutsRace refusal.Keeper course report old new keeper kept
PerformsRace Is course old new keeper kept status.NoMemory =
    ((new ≡ old) × Took keeper kept [])
    ⊎ ((report : Report) × Is course report × CutsRace refusal.NoMemory course report old new keeper kept)
PerformsRace Is course old new keeper kept _ = ⊥
