-- The seat that a run or a race gives, and what it has recorded.
use Rattle.std.proofs.Common.{List, [], ℕ, Option, Some, None, refl, subst, sym}
use Rattle.std.specs.Prelude.{IsSome, IsSomeAnd}
use Rattle.init_driver.proofs.Keepers.{took_then}
use Rattle.init_driver.specs.Keeper.{KeeperView, Took}
use Rattle.init_machine.specs.declared.report.Report.{Report}
use Rattle.init_race.specs.Race.{HasRecorded as HasRecordedRace, race_given}
use Rattle.init_trace.specs.Report.{TextOf}
use Rattle.command_line.specs.declared.form.Form.TheVariants.{Race, Run}
use Rattle.job_reader.specs.Prepared.{Performs, WritesText}
use Rattle.job_reader.specs.Run.{Course, IsCourseOf}
use Rattle.job_reader.specs.declared.grammar.Grammar.TheVariants.{Whole}
use Rattle.job_reader.specs.declared.status.Status.{Status}
use Rattle.job_reader.specs.declared.status.Status.TheVariants as status
use Rattle.property_area.specs.Seats.{Seated}
use Rattle.init_forms.specs.Outcome.{Shown, Told, shown_as}
use Rattle.init_forms.specs.Racing.{IsAudited}
use Rattle.init_forms.specs.Seats.{GivesOwn, IsGiven, RaceGives, Records, RecordsRace, RunGives}

some_of : {T : Type 0} (P : T → Type 0) (o : Option T) → IsSomeAnd o P → IsSome o
some_of P None h = absurd h
some_of P (Some x) h = refl

-- ---- a run

pub run_given : (course : Course) (how : Status) (seat : Option Seated) → RunGives course how seat → IsGiven how seat
run_given course status.Done seat gives = some_of _ seat gives
run_given course status.Usage seat gives = gives
run_given course status.ReadFault seat gives = gives
run_given course status.WriteFault seat gives = gives
run_given course status.NoMemory seat gives = gives
run_given course (status.BadScript line) seat gives = gives
run_given course status.NoInit seat gives = gives
run_given course (status.TooLarge limit number) seat gives = gives
run_given course (status.BadPolicy allow line) seat gives = gives
run_given course (status.BadStore line why) seat gives = gives
run_given course (status.BadWire at) seat gives = gives
run_given course status.BadTrace seat gives = gives

pub run_records : (course : Course) (told : Told) (old new : Option (List ℕ)) (a b c : KeeperView) (how : Status) (seat : Option Seated)
    → IsCourseOf Whole told.script told.world told.held course → Performs course old new b c how → RunGives course how seat
    → Records (Some Run) told how (shown_as old new a c) seat
run_records course told old new a b c status.Done seat is h gives = (course, is, h.0, gives)
run_records course told old new a b c status.Usage seat is h gives = tt
run_records course told old new a b c status.ReadFault seat is h gives = tt
run_records course told old new a b c status.WriteFault seat is h gives = tt
run_records course told old new a b c status.NoMemory seat is h gives = tt
run_records course told old new a b c (status.BadScript line) seat is h gives = tt
run_records course told old new a b c status.NoInit seat is h gives = tt
run_records course told old new a b c (status.TooLarge limit number) seat is h gives = tt
run_records course told old new a b c (status.BadPolicy allow line) seat is h gives = tt
run_records course told old new a b c (status.BadStore line why) seat is h gives = tt
run_records course told old new a b c (status.BadWire at) seat is h gives = tt
run_records course told old new a b c status.BadTrace seat is h gives = tt

-- ---- a race

-- a report was written whole or in part
pub written_gives : (course : Course) (report : Report) (own : Seated) (old new : Option (List ℕ)) (keeper kept : KeeperView) (how : Status) (seat : Option Seated)
    → IsAudited course report → Took keeper kept (race_given course.opening report.history)
    → HasRecordedRace course.opening report.history report.clients own.view → WritesText (TextOf report) old new how → GivesOwn own how seat
    → RaceGives course (shown_as old new keeper kept) how seat
written_gives course report own old new keeper kept status.Done seat audited took has writes is =
    (report, audited, (writes, took), subst (RecordsRace course report) (sym is) has)
written_gives course report own old new keeper kept status.WriteFault seat audited took has writes is = is
written_gives course report own old new keeper kept status.NoMemory seat audited took has writes is = is
written_gives course report own old new keeper kept status.ReadFault seat audited took has writes is = is
written_gives course report own old new keeper kept status.Usage seat audited took has writes is = is
written_gives course report own old new keeper kept (status.BadScript line) seat audited took has writes is = is
written_gives course report own old new keeper kept status.NoInit seat audited took has writes is = is
written_gives course report own old new keeper kept (status.TooLarge limit number) seat audited took has writes is = is
written_gives course report own old new keeper kept (status.BadPolicy allow line) seat audited took has writes is = is
written_gives course report own old new keeper kept (status.BadStore line why) seat audited took has writes is = is
written_gives course report own old new keeper kept (status.BadWire at) seat audited took has writes is = is
written_gives course report own old new keeper kept status.BadTrace seat audited took has writes is = is

pub race_is_given : (course : Course) (shown : Shown) (how : Status) (seat : Option Seated) → RaceGives course shown how seat → IsGiven how seat
race_is_given course shown status.Done seat gives = some_of _ seat gives.3
race_is_given course shown status.Usage seat gives = gives
race_is_given course shown status.ReadFault seat gives = gives
race_is_given course shown status.WriteFault seat gives = gives
race_is_given course shown status.NoMemory seat gives = gives
race_is_given course shown (status.BadScript line) seat gives = gives
race_is_given course shown status.NoInit seat gives = gives
race_is_given course shown (status.TooLarge limit number) seat gives = gives
race_is_given course shown (status.BadPolicy allow line) seat gives = gives
race_is_given course shown (status.BadStore line why) seat gives = gives
race_is_given course shown (status.BadWire at) seat gives = gives
race_is_given course shown status.BadTrace seat gives = gives

-- behind a keeper that was asked for its text
pub race_records : (course : Course) (told : Told) (old new : Option (List ℕ)) (a b c : KeeperView) (how : Status) (seat : Option Seated) → Took a b []
    → IsCourseOf Whole told.script told.world told.held course → RaceGives course (shown_as old new b c) how seat
    → Records (Some Race) told how (shown_as old new a c) seat
race_records course told old new a b c status.Done seat asked is gives = (
  course,
  gives.0,
  record { course_is = is; audited = gives.1 },
  (gives.2.0, took_then a b c [] (race_given course.opening gives.0.history) asked gives.2.1),
  gives.3,
)
race_records course told old new a b c status.Usage seat asked is gives = tt
race_records course told old new a b c status.ReadFault seat asked is gives = tt
race_records course told old new a b c status.WriteFault seat asked is gives = tt
race_records course told old new a b c status.NoMemory seat asked is gives = tt
race_records course told old new a b c (status.BadScript line) seat asked is gives = tt
race_records course told old new a b c status.NoInit seat asked is gives = tt
race_records course told old new a b c (status.TooLarge limit number) seat asked is gives = tt
race_records course told old new a b c (status.BadPolicy allow line) seat asked is gives = tt
race_records course told old new a b c (status.BadStore line why) seat asked is gives = tt
race_records course told old new a b c (status.BadWire at) seat asked is gives = tt
race_records course told old new a b c status.BadTrace seat asked is gives = tt
