-- The seat that a call gives: that of the writer of the property area over which the machine ran. A writer has recorded the opening, the
-- history, and what each client was told.
use Rattle.std.specs.Prelude.{◌≡◌, ℕ, ⊤, Option, Some, None, IsSome, IsSomeAnd}
use Rattle.std.specs.Io.KnownBytes.{append_known}
use Rattle.init_driver.specs.Run.{report_of}
use Rattle.init_driver.specs.Seat.{HasRecorded}
use Rattle.init_machine.specs.declared.report.Report.{Report}
use Rattle.init_race.specs.Race.{HasRecorded as HasRecordedRace}
use Rattle.command_line.specs.declared.form.Form.{Form}
use Rattle.command_line.specs.declared.form.Form.TheVariants as form
use Rattle.job_reader.specs.Run.{Course, IsCourseOf, run_text}
use Rattle.job_reader.specs.declared.grammar.Grammar.TheVariants.{Whole}
use Rattle.job_reader.specs.declared.status.Status.{Status}
use Rattle.job_reader.specs.declared.status.Status.TheVariants as status
use Rattle.property_area.specs.Seats.{Seated}
use Rattle.init_forms.specs.Outcome.{IsRaced, Shown, Told}
use Rattle.init_forms.specs.Racing.{IsAudited, WritesRace}
use Rattle.init_forms.specs.Soaking.{soak_text}

-- a call that is done gives a seat, and no other does
abbrev pub IsGiven : Status → Option Seated → Type 0
IsGiven status.Done seat = IsSome seat
IsGiven how seat = seat ≡ None

-- this seat is given where it is done
abbrev pub GivesOwn : Seated → Status → Option Seated → Type 0
GivesOwn own status.Done seat = seat ≡ Some own
GivesOwn own how seat = seat ≡ None

-- so it is with the forms that run the machine over an area; the others give none
abbrev pub GivesSeat : Option Form → Status → Option Seated → Type 0
GivesSeat (Some form.Run) how seat = IsGiven how seat
GivesSeat (Some form.Race) how seat = IsGiven how seat
GivesSeat (Some (form.Soak services)) how seat = IsGiven how seat
GivesSeat form how seat = seat ≡ None

-- the writer has recorded the report of a run of this course
abbrev pub RecordsRun : Course → Option Seated → Type 0
RecordsRun course seat =
    IsSomeAnd seat (λ given. HasRecorded course.opening (report_of course.opening course.diagnostics course.script) given.view)

-- the writer has recorded this report of a race of this course
abbrev pub RecordsRace : Course → Report → Option Seated → Type 0
RecordsRace course report seat =
    IsSomeAnd seat (λ given. HasRecordedRace course.opening report.history report.clients given.view)

-- what a run of a course gives, where it is done
abbrev pub RunGives : Course → Status → Option Seated → Type 0
RunGives course status.Done seat = RecordsRun course seat
RunGives course how seat = seat ≡ None

-- what a race of a course gives, where it is done: the seat on which the report is recorded whose text is written
abbrev pub RaceGives : Course → Shown → Status → Option Seated → Type 0
RaceGives course shown status.Done seat =
    (report : Report) × IsAudited course report × WritesRace course report shown.old shown.new shown.keeper shown.kept × RecordsRace course report seat
RaceGives course shown how seat = seat ≡ None

-- the course that is told was run: its report is written, and recorded
abbrev pub WritesRecorded : Told → Shown → Option Seated → Type 0
WritesRecorded told shown seat =
    (course : Course) × IsCourseOf Whole told.script told.world told.held course × (shown.new ≡ append_known shown.old (run_text course)) × RecordsRun course seat

-- the course of the generated boot was run: the summary of its report is written, and its report is recorded
abbrev pub WritesSummary : ℕ → Told → Shown → Option Seated → Type 0
WritesSummary services told shown seat =
    (course : Course) × IsCourseOf Whole told.script told.world told.held course × (shown.new ≡ append_known shown.old (soak_text services course))
    × RecordsRun course seat

-- the course that is told was raced: a report is written that the audit answers Yes to, and it is the one that is recorded
abbrev pub WritesRacedRecord : Told → Shown → Option Seated → Type 0
WritesRacedRecord told shown seat =
    (course : Course) × (report : Report) × IsRaced told course report
    × WritesRace course report shown.old shown.new shown.keeper shown.kept × RecordsRace course report seat

-- The record behind the seat that is given, where it is told what the form reads: that of the report that was written, or
-- whose summary was.
abbrev pub Records : Option Form → Told → Status → Shown → Option Seated → Type 0
Records (Some form.Run) told status.Done shown seat = WritesRecorded told shown seat
Records (Some form.Race) told status.Done shown seat = WritesRacedRecord told shown seat
Records (Some (form.Soak services)) told status.Done shown seat = WritesSummary services told shown seat
Records form told how shown seat = ⊤
