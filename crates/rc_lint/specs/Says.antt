-- What a status says of a told tree, and what is written then.
use Rattle.std.specs.Prelude.{◌≡◌, ◌≢◌, ℕ, ⊤, ◌⊎◌, List, [], Option, Ok, Err}
use Rattle.std.specs.Io.KnownBytes.{append_known}
use Rattle.init_trace.specs.Written.{TakesFront}
use Rattle.lint_findings.specs.Left.{left}
use Rattle.lint_findings.specs.Findings.{diagnostics_of, errors_in}
use Rattle.lint_findings.specs.declared.finding.Finding.{Finding}
use Rattle.lint_findings.specs.Page.{IsPage}
use Rattle.rc_import.specs.declared.loaded.Loaded.{Loaded}
use Rattle.rc_import.specs.declared.loaded.LoadRefusal.TheVariants as why
use Rattle.lint_sources.specs.Excused.{errors_among}
use Rattle.lint_sources.specs.Loads.{loaded}
use Rattle.lint_sources.specs.Told.{Told}
use Rattle.rc_lint.specs.declared.request.Request.{Request}
use Rattle.rc_lint.specs.declared.status.Status.{Status}
use Rattle.rc_lint.specs.declared.status.Status.TheVariants as status

-- What is told of a told tree: what the baseline leaves of findings whose errors are the documented diagnostics of the tree that
-- aren't excused, each once and in order.
pub record Tells (request : Request) (told : Told) (findings : List Finding) : Type 0 where
  pub load : Loaded
  pub loads : loaded told.world ≡ Ok load
  pub all : List Finding
  pub diagnostics_are : diagnostics_of all ≡ errors_among request.allowed told load.diagnostics
  pub findings_are : findings ≡ left request.baseline.rows all

-- a report that tells these findings
pub record IsReport (request : Request) (told : Told) (findings : List Finding) (text : List ℕ) : Type 0 where
  pub tells : Tells request told findings
  pub files : ℕ
  pub printed : IsPage request.style findings files text

-- the whole report was written, and its errors are these
pub record Reports (request : Request) (told : Told) (errors : List Finding) (old new : Option (List ℕ)) : Type 0 where
  pub findings : List Finding
  pub text : List ℕ
  pub is_report : IsReport request told findings text
  pub errors_are : errors_in request.style.promoted findings ≡ errors
  pub written : new ≡ append_known old text

-- a front of a report was written
pub record ReportsFront (request : Request) (told : Told) (old new : Option (List ℕ)) : Type 0 where
  pub findings : List Finding
  pub text : List ℕ
  pub is_report : IsReport request told findings text
  pub written : TakesFront old new text

pub record ReportsErrors (request : Request) (told : Told) (old new : Option (List ℕ)) : Type 0 where
  pub errors : List Finding
  pub some : errors ≢ []
  pub reports : Reports request told errors old new

-- The status says whether there is an error, by itself or promoted. A tree is refused as its load is, and nothing is written then.
abbrev pub LintSays : Request → Told → Option (List ℕ) → Option (List ℕ) → Status → Type 0
LintSays request told old new status.Clean = Reports request told [] old new
LintSays request told old new status.Faulty = ReportsErrors request told old new
LintSays request told old new status.WriteFault = ReportsFront request told old new
LintSays request told old new (status.Refused why.NoMemory) = (new ≡ old) ⊎ ReportsFront request told old new
LintSays request told old new (status.Refused why.ReadFault) = new ≡ old
LintSays request told old new (status.Refused why.NoInit) = (loaded told.world ≡ Err why.NoInit) × (new ≡ old)
LintSays request told old new (status.Refused (why.TooLarge path limit number)) =
    (loaded told.world ≡ Err (why.TooLarge path limit number)) × (new ≡ old)
LintSays request told old new (status.Refused (why.TooMany path number)) =
    (loaded told.world ≡ Err (why.TooMany path number)) × (new ≡ old)

-- a refusal writes nothing, also where nothing is told
abbrev pub IsUnwritten : Option (List ℕ) → Option (List ℕ) → Status → Type 0
IsUnwritten old new status.Clean = ⊤
IsUnwritten old new status.Faulty = ⊤
IsUnwritten old new status.WriteFault = ⊤
IsUnwritten old new (status.Refused why.NoMemory) = ⊤
IsUnwritten old new (status.Refused why.ReadFault) = new ≡ old
IsUnwritten old new (status.Refused why.NoInit) = new ≡ old
IsUnwritten old new (status.Refused (why.TooLarge path limit number)) = new ≡ old
IsUnwritten old new (status.Refused (why.TooMany path number)) = new ≡ old
