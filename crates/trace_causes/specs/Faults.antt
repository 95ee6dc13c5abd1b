-- What is wrong with a text that is no report's: the first of its lines that no report has there.
use Rattle.std.specs.Prelude.{◌≡◌, ◌<◌, ◌≤◌, ℕ, ◌+◌, ◌-◌, Bool, true, false, if◌then◌else◌, nat_eq, List, [], ◌∷◌, ◌++◌, length, slice_get, codes, Option, Some, None}
use Rattle.std.specs.List.{ends_with}
use Rattle.std.specs.Str.{bytes_eq}
use Rattle.init_base.specs.Lines.{lines_of}
use Rattle.init_machine.specs.declared.report.Report.{Report}
use Rattle.trace_reader.specs.Drafts.{end_line}
use Rattle.trace_reader.specs.Reports.{IsTextOf}
use Rattle.trace_causes.specs.Lines.{front}
use Rattle.trace_causes.specs.declared.fault.LineFault.{LineFault}
use Rattle.trace_causes.specs.declared.fault.LineFault.TheVariants as fault
use Rattle.trace_causes.specs.declared.fault.TextFault.{TextFault}

-- the text is a report's
pub record IsReports (text : List ℕ) : Type 0 where
  pub report : Report
  pub is : IsTextOf text report

-- the text is that of no report
pub record IsNoReports (text : List ℕ) : Type 0 where
  pub none : (report : Report) → ¬ IsTextOf text report

-- ---- lines

abbrev pub is_this : List ℕ → Option (List ℕ) → Bool
is_this wanted None = false
is_this wanted (Some line) = bytes_eq line wanted

-- the line with this number stands there, and is this one
abbrev pub has_line : List (List ℕ) → ℕ → List ℕ → Bool
has_line lines number wanted = is_this wanted (slice_get lines (number - 1))

abbrev pub has_title : List (List ℕ) → Bool
has_title lines = has_line lines 1 (codes "initsim 1")

abbrev pub has_end : List (List ℕ) → ℕ → Bool
has_end lines number = has_line lines number (codes "end")

-- the number of lines that are before a last line `end`, or of all where the last one is another
abbrev pub inner_count : List (List ℕ) → ℕ
inner_count lines = if has_end lines (length lines) then length lines - 1 else length lines

-- the first lines, so many, and the last line of each trace
abbrev pub ended_front : List (List ℕ) → ℕ → List ℕ
ended_front lines count = front lines count ++ end_line

-- the first lines, so many, a text, and the last line of each trace
abbrev pub going_on : List (List ℕ) → ℕ → List ℕ → List ℕ
going_on lines count more = front lines count ++ (more ++ end_line)

-- Among the first lines, so many, this is the first one with which no trace goes on: the lines before it, so many or fewer, are
-- those of a trace that ends behind them, and no trace begins with those up to it and ends behind them, whatever stands between.
pub record IsFirstBad (lines : List (List ℕ)) (count number : ℕ) : Type 0 where
  pub some : 0 < number
  pub among : number ≤ count
  pub before : (fewer : ℕ) → 0 < fewer → fewer < number → IsReports (ended_front lines fewer)
  pub bad : (more : List ℕ) → IsNoReports (going_on lines number more)

-- the number that is told of a bad line: where it is `end`, a trace ends with it, so it is that of the line behind it
abbrev pub told_number : List (List ℕ) → ℕ → ℕ
told_number lines bad = if has_end lines bad then bad + 1 else bad

-- ---- faults

abbrev pub has_line_end : List ℕ → Bool
has_line_end text = ends_with nat_eq text (10 ∷ [])

-- the text with LF, and with the last line of each trace where its own is another
abbrev pub completed : List ℕ → List ℕ
completed text =
    let lines = lines_of text in
    if has_end lines (length lines) then text ++ 10 ∷ [] else (text ++ 10 ∷ []) ++ end_line

-- the first line isn't that of a trace
pub record LacksTitle (text : List ℕ) (number : ℕ) : Type 0 where
  pub title : has_title (lines_of text) ≡ false
  pub line : number ≡ 1

-- a line is bad, and the one that is told stands there
pub record HasBad (text : List ℕ) (number : ℕ) : Type 0 where
  pub title : has_title (lines_of text) ≡ true
  pub bad : ℕ
  pub is : IsFirstBad (lines_of text) (inner_count (lines_of text)) bad
  pub line : number ≡ told_number (lines_of text) bad
  pub there : number ≤ length (lines_of text)

-- all lines are good and end with LF, and the last line of a trace should stand behind them
pub record LacksEnd (text : List ℕ) (number : ℕ) : Type 0 where
  pub title : has_title (lines_of text) ≡ true
  pub line_end : has_line_end text ≡ true
  pub good : IsReports (text ++ end_line)
  pub line : number ≡ length (lines_of text) + 1

-- all lines are good, and the last one doesn't end with LF
pub record LacksLineFeed (text : List ℕ) (number : ℕ) : Type 0 where
  pub title : has_title (lines_of text) ≡ true
  pub line_end : has_line_end text ≡ false
  pub good : IsReports (completed text)
  pub line : number ≡ length (lines_of text)

-- what a fault says of the line with this number
abbrev pub Says : LineFault → List ℕ → ℕ → Type 0
Says fault.NoTitle text number = LacksTitle text number
Says fault.NoForm text number = HasBad text number
Says fault.NoEnd text number = LacksEnd text number
Says fault.NoLineFeed text number = LacksLineFeed text number

-- the text is that of no report, and this is the first thing that is wrong with it
pub record Shows (text : List ℕ) (fault : TextFault) : Type 0 where
  pub none : IsNoReports text
  pub says : Says fault.what text fault.line

-- a text has at most one fault
abbrev pub OneFault : Type 0
OneFault = (text : List ℕ) (a b : TextFault) → Shows text a → Shows text b → a ≡ b
