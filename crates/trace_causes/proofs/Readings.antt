-- What the reader says of a text.
use Rattle.std.proofs.Common.{◌≡◌, ℕ, true, false, List, Option, Some, None, Result, Ok, Err, IfOk, refl, sym, ap, ◌∙◌}
use Rattle.std.specs.Prelude.{is_none, is_some, MatchOption}
use Rattle.init_base.specs.declared.memory.NoMemory.{NoMemory}
use Rattle.init_machine.specs.declared.report.Entry.{Entry}
use Rattle.init_machine.specs.declared.report.Report.{Report}
use Rattle.trace_reader.proofs.Frames.{answer}
use Rattle.trace_reader.specs.Drafts.{framed}
use Rattle.trace_reader.specs.Pieces.{with_front}
use Rattle.trace_causes.specs.Faults.{IsNoReports, IsReports}

read_as : (text : List ℕ) (found : Option Report) → framed text ≡ found → is_some found ≡ true → IsReports text
read_as text None e some = cc
read_as text (Some report) e some = record { report = report; is = (answer text (Some report) e report).0 refl }

unread_as : (text : List ℕ) (found : Option Report) → framed text ≡ found → is_some found ≡ false → IsNoReports text
unread_as text None e none = record { none = λ report h. let same : None ≡ Some report = (answer text None e report).1 h in cc }
unread_as text (Some report) e none = cc

pub is_read : (text : List ℕ) → is_some (framed text) ≡ true → IsReports text
is_read text some = read_as text (framed text) refl some

pub is_unread : (text : List ℕ) → is_some (framed text) ≡ false → IsNoReports text
is_unread text none = unread_as text (framed text) refl none

pub reads : (text : List ℕ) → IsReports text → is_some (framed text) ≡ true
reads text is = ap is_some ((answer text (framed text) refl is.report).1 is.is)

-- what is left decides
pub some_behind : (entry : Entry) (left : Option Report) → is_some (with_front entry left) ≡ is_some left
some_behind entry None = refl
some_behind entry (Some report) = refl

-- a text is not both
pub not_both : (text : List ℕ) → IsReports text → IsNoReports text → ⊥
not_both text is isnt = isnt.none is.report is.is

-- what is said of a text where nothing stops its reader, or something does
pub told : (text : List ℕ) (stop : Option ℕ) → is_none stop ≡ is_some (framed text) → MatchOption stop (IsReports text) (λ _. IsNoReports text)
told text None e = is_read text (sym e)
told text (Some left) e = is_unread text (sym e)

pub told_if : (text : List ℕ) (left : Option Report) (result : Result (Option ℕ) NoMemory) → framed text ≡ left → IfOk result (λ stop. is_none stop ≡ is_some left)
    → IfOk result (λ stop. MatchOption stop (IsReports text) (λ _. IsNoReports text))
told_if text left (Ok stop) e h = told text stop (h ∙ ap is_some (sym e))
told_if text left (Err why) e h = tt
