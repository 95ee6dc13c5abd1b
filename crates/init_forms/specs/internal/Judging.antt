-- How an audit ends as far as its verdict, before anything is written.
use Rattle.std.specs.Prelude.{ℕ, ⊤, List, Result, Ok, Err}
use Rattle.init_machine.specs.declared.report.Report.{Report}
use Rattle.job_reader.specs.Run.{Course}
use Rattle.job_reader.specs.Stops.{status_of}
use Rattle.job_reader.specs.declared.status.Status.{Status}
use Rattle.job_reader.specs.declared.status.Status.TheVariants as status
use Rattle.job_reader.specs.declared.stop.Stop.{Stop}
use Rattle.job_reader.specs.declared.stop.Stop.TheVariants as stop
use Rattle.trace_audit.specs.Texts.{IsVerdictOn}
use Rattle.trace_audit.specs.declared.verdict.Verdict.{Verdict}
use Rattle.trace_reader.specs.Reports.{IsTextOf}

-- done as soon as there is a verdict, or else stopped so
abbrev pub ending_of : {T : Type 0} → Result T Stop → Status
ending_of (Ok value) = status.Done
ending_of (Err why) = status_of why

-- a text is judged by what a run would go by: this is the verdict on its report, or it is no report's text
abbrev pub JudgesText : Course → List ℕ → Result Verdict Stop → Type 0
JudgesText course text (Ok said) = IsVerdictOn course.opening course.diagnostics course.script text said
JudgesText course text (Err stop.BadTrace) = (report : Report) → ¬ IsTextOf text report
JudgesText course text (Err stop.NoMemory) = ⊤
JudgesText course text (Err stop.ReadFault) = ⊥
JudgesText course text (Err (stop.BadScript line)) = ⊥
JudgesText course text (Err stop.NoInit) = ⊥
JudgesText course text (Err (stop.TooLarge limit number)) = ⊥
JudgesText course text (Err (stop.BadPolicy allow line)) = ⊥
JudgesText course text (Err (stop.BadStore line why)) = ⊥
