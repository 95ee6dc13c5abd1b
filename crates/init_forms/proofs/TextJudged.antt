-- What is said of a trace whose text was judged.
use Rattle.std.proofs.Common.{◌≡◌, ℕ, List, Option, Result, Ok, Err, false, refl, sym, subst}
use Rattle.std.specs.Prelude.{IfErr, IfOk}
use Rattle.init_machine.specs.declared.report.Report.{Report}
use Rattle.job_reader.specs.Run.{Course}
use Rattle.job_reader.specs.Stops.{GivesTrace, IsOfTrace, has_read_fault}
use Rattle.job_reader.specs.Trace.{IsTraceOf, TraceSays}
use Rattle.job_reader.specs.declared.stop.Stop.{Stop}
use Rattle.job_reader.specs.declared.stop.Stop.TheVariants as stop
use Rattle.trace_audit.specs.declared.verdict.Verdict.{Verdict}
use Rattle.trace_reader.specs.Reports.{IsTextOf}
use Rattle.init_forms.specs.internal.Judging.{JudgesText, ending_of}
use Rattle.init_forms.specs.Verdict.{IsVerdictOn}

text_of : (bytes text : List ℕ) (left : Option (List ℕ)) (report : Report) → GivesTrace bytes left (Ok text) → IsTextOf text report → IsTraceOf bytes report
text_of bytes text left report gives is = record { short = gives.1; text = subst (λ (t : List ℕ). IsTextOf t report) gives.0 is }

pub judged_trace : (course : Course) (bytes text : List ℕ) (left : Option (List ℕ)) (r : Result Verdict Stop)
    → GivesTrace bytes left (Ok text) → JudgesText course text r → TraceSays bytes left (ending_of r)
judged_trace course bytes text left (Ok said) gives judged = ((judged.report, text_of bytes text left judged.report gives judged.text_is), gives.2)
judged_trace course bytes text left (Err stop.BadTrace) gives judged = record {
  short = gives.1;
  none = λ report is. judged report (subst (λ (t : List ℕ). IsTextOf t report) (sym gives.0) is);
}
judged_trace course bytes text left (Err stop.NoMemory) gives judged = tt
judged_trace course bytes text left (Err stop.ReadFault) gives judged = absurd judged
judged_trace course bytes text left (Err (stop.BadScript line)) gives judged = absurd judged
judged_trace course bytes text left (Err stop.NoInit) gives judged = absurd judged
judged_trace course bytes text left (Err (stop.TooLarge limit number)) gives judged = absurd judged
judged_trace course bytes text left (Err (stop.BadPolicy allow line)) gives judged = absurd judged
judged_trace course bytes text left (Err (stop.BadStore line why)) gives judged = absurd judged

pub judged_said : (course : Course) (bytes text : List ℕ) (left : Option (List ℕ)) (r : Result Verdict Stop)
    → GivesTrace bytes left (Ok text) → JudgesText course text r → IfOk r (IsVerdictOn course bytes)
judged_said course bytes text left (Ok said) gives judged = record {
  report = judged.report;
  report_is = text_of bytes text left judged.report gives judged.text_is;
  says = judged.says;
  yes = judged.yes;
}
judged_said course bytes text left (Err why) gives judged = tt

pub judged_last : (course : Course) (text : List ℕ) (r : Result Verdict Stop) → JudgesText course text r → IfErr r IsOfTrace
judged_last course text (Ok said) judged = tt
judged_last course text (Err stop.BadTrace) judged = tt
judged_last course text (Err stop.NoMemory) judged = tt
judged_last course text (Err stop.ReadFault) judged = absurd judged
judged_last course text (Err (stop.BadScript line)) judged = absurd judged
judged_last course text (Err stop.NoInit) judged = absurd judged
judged_last course text (Err (stop.TooLarge limit number)) judged = absurd judged
judged_last course text (Err (stop.BadPolicy allow line)) judged = absurd judged
judged_last course text (Err (stop.BadStore line why)) judged = absurd judged

pub judged_fault : (course : Course) (text : List ℕ) (r : Result Verdict Stop) → JudgesText course text r → has_read_fault r ≡ false
judged_fault course text (Ok said) judged = refl
judged_fault course text (Err stop.BadTrace) judged = refl
judged_fault course text (Err stop.NoMemory) judged = refl
judged_fault course text (Err stop.ReadFault) judged = absurd judged
judged_fault course text (Err (stop.BadScript line)) judged = refl
judged_fault course text (Err stop.NoInit) judged = refl
judged_fault course text (Err (stop.TooLarge limit number)) judged = refl
judged_fault course text (Err (stop.BadPolicy allow line)) judged = refl
judged_fault course text (Err (stop.BadStore line why)) judged = refl
