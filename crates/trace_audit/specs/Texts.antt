-- What an audit says of a text.
use Rattle.std.specs.Prelude.{◌≡◌, ◌↔◌, ℕ, ⊤, List, Option, Some, None, Result, Ok, Err}
use Rattle.init_machine.specs.State.{Opening}
use Rattle.init_machine.specs.declared.diagnostic.Diagnostic.{Diagnostic}
use Rattle.init_machine.specs.declared.report.Report.{Report}
use Rattle.script_lang.specs.declared.script.Script.{Script}
use Rattle.trace_audit.specs.Audited.{Audited, Says}
use Rattle.trace_audit.specs.declared.verdict.Verdict.{Verdict}
use Rattle.trace_audit.specs.declared.verdict.Verdict.TheVariants as verdict
use Rattle.trace_reader.specs.Reports.{IsTextOf}
use Rattle.script_lang.specs.declared.fault.Fault.{Fault}
use Rattle.script_lang.specs.declared.fault.Fault.TheVariants as fault

-- the verdict is that on the report that the text is the text of
pub record IsVerdictOn (o : Opening) (found : List Diagnostic) (script : Script) (text : List ℕ) (said : Verdict) : Type 0 where
  pub report : Report
  pub text_is : IsTextOf text report
  pub says : Says o found script report said
  pub yes : (said ≡ verdict.Yes) ↔ Audited o found script report

-- An audit of a text answers its verdict, or that the text is that of no report. Memory may run out.
abbrev pub SaysOf : Opening → List Diagnostic → Script → List ℕ → Result Verdict Fault → Type 0
SaysOf o found script text (Ok said) = IsVerdictOn o found script text said
SaysOf o found script text (Err fault.Bad) = (report : Report) → ¬ IsTextOf text report
SaysOf o found script text (Err fault.NoMemory) = ⊤

-- The same of the report that was to come, if it was one. No promise of a public call cites it.
abbrev pub SaysOfReport : Opening → List Diagnostic → Script → Option Report → Result Verdict Fault → Type 0
SaysOfReport o found script left (Ok said) = (report : Report) × (left ≡ Some report) × Says o found script report said
SaysOfReport o found script left (Err fault.Bad) = left ≡ None
SaysOfReport o found script left (Err fault.NoMemory) = ⊤
