-- A report of which the first lines were read, and what the next line adds.
use Rattle.std.specs.Prelude.{◌≡◌, ℕ, ◌+◌, ◌-◌, ◌==◌, if◌then◌else◌, List, [], ◌∷◌, ◌++◌, length, take, drop, codes, Option, Some, None, Result, Ok, Err}
use Rattle.std.specs.List.{slice_split}
use Rattle.std.specs.Str.{bytes_eq}
use Rattle.init_machine.specs.declared.diagnostic.Diagnostic.{Diagnostic}
use Rattle.init_machine.specs.declared.input.Input.{Input}
use Rattle.init_machine.specs.declared.output.Output.{Output}
use Rattle.init_machine.specs.declared.report.ClientPart.{ClientPart}
use Rattle.init_machine.specs.declared.report.Entry.{Entry}
use Rattle.init_machine.specs.declared.report.Reading.{Reading}
use Rattle.init_machine.specs.declared.report.Report.{Report}
use Rattle.trace_reader.specs.Lines.{line_of}
use Rattle.trace_reader.specs.Reading.{bind}
use Rattle.trace_reader.specs.Split.{is_line_feed, is_space}
use Rattle.trace_reader.specs.declared.draft.Draft.{Draft}
use Rattle.trace_reader.specs.declared.draft.Part.{Part}
use Rattle.trace_reader.specs.declared.draft.Part.TheVariants as part
use Rattle.script_lang.specs.declared.fault.Fault.{Fault}
use Rattle.script_lang.specs.declared.fault.Fault.TheVariants as fault
use Rattle.trace_reader.specs.declared.line.Line.{Line}
use Rattle.trace_reader.specs.declared.line.Line.TheVariants as line

abbrev pub draft : List Diagnostic → List Entry → List ClientPart → Part → Draft
draft diagnostics history clients latest =
    record { diagnostics = diagnostics; history = history; clients = clients; latest = latest }

abbrev pub empty_draft : Draft
empty_draft = draft [] [] [] part.Diagnostics

abbrev pub entry : Input → List Output → Entry
entry input outputs = record { input = input; outputs = outputs }

abbrev pub client_part : List ℕ → List ℕ → List Reading → ClientPart
client_part name domain readings = record { name = name; domain = domain; readings = readings }

-- the latest part stands behind those of its kind
abbrev pub closed_with : Part → Draft → Draft
closed_with part.Diagnostics d = draft d.diagnostics d.history d.clients part.Diagnostics
closed_with (part.Entry e) d = draft d.diagnostics (d.history ++ e ∷ []) d.clients part.Diagnostics
closed_with (part.Client c) d = draft d.diagnostics d.history (d.clients ++ c ∷ []) part.Diagnostics

abbrev pub begun : Draft → Part → Draft
begun d latest =
    let closed = closed_with d.latest d in draft closed.diagnostics closed.history closed.clients latest

abbrev pub diagnostic_at : Part → Draft → Diagnostic → Option Draft
diagnostic_at part.Diagnostics d added = Some (draft (d.diagnostics ++ added ∷ []) d.history d.clients part.Diagnostics)
diagnostic_at (part.Entry e) d added = None
diagnostic_at (part.Client c) d added = None

abbrev pub with_diagnostic : Draft → Diagnostic → Option Draft
with_diagnostic d added = diagnostic_at d.latest d added

abbrev pub head_at : Part → Draft → Input → Option Draft
head_at part.Diagnostics d input = Some (begun d (part.Entry (entry input [])))
head_at (part.Entry e) d input = Some (begun d (part.Entry (entry input [])))
head_at (part.Client c) d input = None

abbrev pub with_head : Draft → Input → Option Draft
with_head d input = head_at d.latest d input

abbrev pub output_at : Part → Draft → Output → Option Draft
output_at part.Diagnostics d added = None
output_at (part.Entry e) d added = Some (draft d.diagnostics d.history d.clients (part.Entry (entry e.input (e.outputs ++ added ∷ []))))
output_at (part.Client c) d added = None

abbrev pub with_output : Draft → Output → Option Draft
with_output d added = output_at d.latest d added

-- the head of a client's part has the number that comes next, from 1
abbrev pub with_client : Draft → ℕ → List ℕ → List ℕ → Option Draft
with_client d id name domain =
    let next = begun d (part.Client (client_part name domain [])) in
    if id == length next.clients + 1 then Some next else None

abbrev pub reading_at : Part → Draft → Reading → Option Draft
reading_at part.Diagnostics d added = None
reading_at (part.Entry e) d added = None
reading_at (part.Client c) d added =
    Some (draft d.diagnostics d.history d.clients (part.Client (client_part c.name c.domain (c.readings ++ added ∷ []))))

abbrev pub with_reading : Draft → Reading → Option Draft
with_reading d added = reading_at d.latest d added

-- what a line adds. None where it can't stand there
abbrev pub step : Draft → Line → Option Draft
step d (line.Diagnostic diagnostic) = with_diagnostic d diagnostic
step d (line.Head input) = with_head d input
step d (line.Output output) = with_output d output
step d (line.Client id name domain) = with_client d id name domain
step d (line.Reading reading) = with_reading d reading

-- a call that changes a draft makes this step of it, unless memory ran out
abbrev pub IsStep : {T : Type 0} → Result T Fault → Draft → Option Draft → Type 0
IsStep (Ok done) now reading = reading ≡ Some now
IsStep (Err fault.Bad) now reading = reading ≡ None
IsStep (Err fault.NoMemory) now reading = Unit {0}

abbrev pub finished : Draft → Report
finished d =
    let closed = closed_with d.latest d in
    record { diagnostics = closed.diagnostics; history = closed.history; clients = closed.clients }

-- nothing stands behind the last LF
abbrev pub ended : List ℕ → Draft → Option Report
ended [] d = Some (finished d)
ended (byte ∷ rest) d = None

-- what a line adds, by its bytes
abbrev pub line_added : Draft → List ℕ → Option Draft
line_added d bytes = bind (line_of (slice_split is_space bytes)) (step d)

-- the report of the lines that come, and of what stands behind the last LF
abbrev pub report_from : Draft → List (List ℕ) → Option Report
report_from d [] = None
report_from d (last ∷ []) = ended last d
report_from d (bytes ∷ more ∷ rest) = bind (line_added d bytes) (λ next. report_from next (more ∷ rest))

-- the report of the lines between the first and the last one
abbrev pub body_report : List (List ℕ) → Option Report
body_report parts = report_from empty_draft parts

-- `initsim 1` and LF, and `end` and LF
abbrev pub title : List ℕ
title = codes "initsim 1" ++ 10 ∷ []

abbrev pub end_line : List ℕ
end_line = codes "end" ++ 10 ∷ []

-- what stands before the last line
abbrev pub before_end : List ℕ → Option (List ℕ)
before_end rest =
    if bytes_eq (drop (length rest - 4) rest) end_line then Some (take (length rest - 4) rest) else None

-- what stands between the first line of a text and the last one
abbrev pub body_of : List ℕ → Option (List ℕ)
body_of text = if bytes_eq (take 10 text) title then before_end (drop 10 text) else None

abbrev pub framed : List ℕ → Option Report
framed text = bind (body_of text) (λ body. body_report (slice_split is_line_feed body))
