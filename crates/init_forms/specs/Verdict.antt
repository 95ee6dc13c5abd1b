-- The verdict on a trace, and its text.
use Rattle.std.specs.Prelude.{◌≡◌, ◌↔◌, ℕ, List, [], ◌∷◌, ◌++◌, codes}
use Rattle.std.specs.Fmt.{decimal}
use Rattle.init_machine.specs.declared.report.Report.{Report}
use Rattle.job_reader.specs.Run.{Course}
use Rattle.job_reader.specs.Trace.{IsTraceOf}
use Rattle.trace_audit.specs.Audited.{Audited, Says}
use Rattle.trace_audit.specs.declared.verdict.Verdict.{Verdict}
use Rattle.trace_audit.specs.declared.verdict.Verdict.TheVariants as verdict
use Rattle.trace_audit.specs.declared.verdict.Why.{Why}
use Rattle.trace_audit.specs.declared.verdict.Why.TheVariants as why

-- What an audit says of the report that the bytes are the text of: whether a run of the course can have written it, and if
-- not, what is wrong first.
pub record IsVerdictOn (course : Course) (bytes : List ℕ) (said : Verdict) : Type 0 where
  pub report : Report
  pub report_is : IsTraceOf bytes report
  pub says : Says course.opening course.diagnostics course.script report said
  pub yes : (said ≡ verdict.Yes) ↔ Audited course.opening course.diagnostics course.script report

-- ---- its text: `yes`, or `no WHY NUMBER`, and LF (10)

abbrev pub why_text : Why → List ℕ
why_text why.Diagnostics = codes "Diagnostics"
why_text why.Clients = codes "Clients"
why_text why.Merge = codes "Merge"
why_text why.Legal = codes "Legal"
why_text why.Readings = codes "Readings"

abbrev pub verdict_text : Verdict → List ℕ
verdict_text verdict.Yes = codes "yes" ++ 10 ∷ []
verdict_text (verdict.No part number) = codes "no " ++ why_text part ++ codes " " ++ decimal number ++ 10 ∷ []
