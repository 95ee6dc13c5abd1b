-- A report that is read entry by entry.
use Rattle.std.specs.Prelude.{◌≡◌, ℕ, ◌+◌, ◌<◌, ⊤, ◌∷◌, [], length, Option, Some, None, Result, Ok, Err}
use Rattle.std.specs.List.{slice_split}
use Rattle.init_machine.specs.declared.report.Entry.{Entry}
use Rattle.init_machine.specs.declared.report.Report.{Report}
use Rattle.trace_reader.specs.Drafts.{draft, finished, report_from}
use Rattle.trace_reader.specs.Reading.{IsUnread}
use Rattle.trace_reader.specs.Split.{is_line_feed}
use Rattle.trace_reader.specs.declared.draft.Draft.{Draft}
use Rattle.script_lang.specs.declared.fault.Fault.{Fault}
use Rattle.trace_reader.specs.declared.piece.Piece.{Piece}
use Rattle.trace_reader.specs.declared.piece.Piece.TheVariants as piece
use Rattle.trace_reader.specs.declared.piece.Pieces.{Pieces}

-- a draft with one entry more before its own
abbrev pub in_front : Entry → Draft → Draft
in_front e d = draft d.diagnostics (e ∷ d.history) d.clients d.latest

-- a report with one entry more before its own
abbrev pub with_front : Entry → Option Report → Option Report
with_front e None = None
with_front e (Some report) = Some (record { diagnostics = report.diagnostics; history = e ∷ report.history; clients = report.clients })

-- the report of what is left of a text. None where it is that of none
abbrev pub left_of : Pieces → Option Report
left_of pieces = report_from pieces.draft (slice_split is_line_feed pieces.rest.now)

-- what comes next of what is left: its first entry, or all of it, which has no entry
abbrev pub IsNext : Option Report → Option Report → Result Piece Fault → Type 0
IsNext old new (Ok (piece.Entry e)) = old ≡ with_front e new
IsNext old new (Ok (piece.Rest report)) = (old ≡ Some report) × (report.history ≡ [])
IsNext old new (Err why) = IsUnread old why

-- No more entries than this come: those that stand in the draft already, and at most one for each byte that is left.
abbrev pub most_entries : Pieces → ℕ
most_entries pieces = length pieces.rest.now + length (finished pieces.draft).history

-- where an entry comes, fewer do afterwards
abbrev pub LeavesFewer : ℕ → ℕ → Result Piece Fault → Type 0
LeavesFewer old new (Ok (piece.Entry e)) = new < old
LeavesFewer old new (Ok (piece.Rest report)) = ⊤
LeavesFewer old new (Err why) = ⊤
