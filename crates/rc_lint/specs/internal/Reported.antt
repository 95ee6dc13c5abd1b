-- What the steps of the top call give.
use Rattle.std.specs.Prelude.{◌≡◌, List, [], ◌∷◌, Result, Ok, Err}
use Rattle.lint_findings.specs.declared.finding.Finding.{Finding}
use Rattle.rc_import.specs.Answers.{IsAnswer}
use Rattle.rc_import.specs.declared.loaded.LoadRefusal.{LoadRefusal}
use Rattle.lint_sources.specs.Loads.{loaded}
use Rattle.rc_lint.specs.Says.{Tells}
use Rattle.lint_sources.specs.Told.{Told}
use Rattle.rc_lint.specs.declared.request.Request.{Request}
use Rattle.rc_lint.specs.declared.status.Status.{Status}
use Rattle.rc_lint.specs.declared.status.Status.TheVariants as status
use Rattle.rc_lint.specs.declared.top.Read.{Read}
use Rattle.rc_lint.specs.declared.top.Report.{Report}

abbrev pub IsRead : Told → Result Read LoadRefusal → Type 0
IsRead told (Ok read) = loaded told.world ≡ Ok read.loaded
IsRead told (Err why) = IsAnswer (Err why) (loaded told.world)

abbrev pub Finds : Request → Told → Result Report LoadRefusal → Type 0
Finds request told (Ok report) = Tells request told report.findings
Finds request told (Err why) = IsAnswer (Err why) (loaded told.world)

-- the status where a report with these errors is written
abbrev pub status_of : List Finding → Status
status_of [] = status.Clean
status_of (error ∷ errors) = status.Faulty
