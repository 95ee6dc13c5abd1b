-- Which report's text bytes are.
use Rattle.std.specs.Prelude.{◌≡◌, ◌↔◌, ℕ, List, Option, Some}
use Rattle.init_machine.specs.HasText.{HasText}
use Rattle.init_machine.specs.declared.report.Report.{Report}
use Rattle.init_trace.specs.Report.{TextOf}
use Rattle.trace_reader.specs.Held.{IsHeld}

-- the bytes are the text of a report that a program can hold and that has a text
pub record IsTextOf (text : List ℕ) (report : Report) : Type 0 where
  pub held : IsHeld report
  pub has_text : HasText report
  pub spelled : TextOf report ≡ text

-- The report that was found is the one with this text, and none was found where no report has it.
abbrev pub IsReportOf : List ℕ → Option Report → Type 0
IsReportOf text found = (report : Report) → (found ≡ Some report) ↔ IsTextOf text report
