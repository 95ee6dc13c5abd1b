-- How a race or a dispatch ends, and what it says of the objects.
use Rattle.std.proofs.Common.{◌≡◌, ℕ, List, [], Option, Some, inl, inr, refl, sym, ◌∙◌, subst, arith}
use Rattle.init_base.specs.Faults.{Rose}
use Rattle.init_driver.proofs.Keepers.{risks_then, risks_took, took_then}
use Rattle.init_driver.specs.Keeper.{KeeperView, Took}
use Rattle.init_driver.specs.Stored.{Keeps}
use Rattle.init_machine.specs.declared.report.Report.{Report}
use Rattle.init_race.specs.Race.{KeepsNot, race_given}
use Rattle.init_race.specs.declared.refusal.RaceRefusal.TheVariants as refusal
use Rattle.init_trace.specs.Report.{TextOf}
use Rattle.command_line.specs.declared.form.Form.{Form}
use Rattle.command_line.specs.declared.form.Form.TheVariants.{Race, Dispatch}
use Rattle.job_reader.specs.Counts.{AreCounted, SomeReadRose, counts_of}
use Rattle.job_reader.specs.Prepared.{WritesText}
use Rattle.job_reader.specs.Run.{Course, IsCourseOf}
use Rattle.job_reader.specs.Script.{IsReadWhole, ScriptSays}
use Rattle.job_reader.specs.Store.{HasStore, StoreSays}
use Rattle.job_reader.specs.Tree.{IsFitFor, TreeSays}
use Rattle.job_reader.specs.Tree.Purpose.{ToRun}
use Rattle.job_reader.specs.declared.grammar.Grammar.{Grammar}
use Rattle.job_reader.specs.declared.grammar.Grammar.TheVariants.{Whole, Sets}
use Rattle.job_reader.specs.declared.status.Status.{Status}
use Rattle.job_reader.specs.declared.status.Status.TheVariants as status
use Rattle.rc_import.specs.World.{World}
use Rattle.init_forms.specs.Outcome.{ComesTo, Ends, Told, Untouched, shown_as}
use Rattle.init_forms.specs.Outcome.Outcome.{Raced}
use Rattle.init_forms.specs.Racing.{IsAudited, IsRelayedReport, PerformsRace, WritesFront, WritesNothing}
use Rattle.init_forms.specs.Top.{IsAsBefore}

-- ---- which statuses a race has

-- what holds of the four statuses of a race that was begun holds of its status
pub raced_status : (Is : Course → Report → Type 0) (P : Status → Type 0) (course : Course) (old new : Option (List ℕ)) (keeper kept : KeeperView) (how : Status)
    → PerformsRace Is course old new keeper kept how → P status.Done → P status.WriteFault → P status.ReadFault → P status.NoMemory → P how
raced_status Is P course old new keeper kept status.Done performs done write read memory = done
raced_status Is P course old new keeper kept status.WriteFault performs done write read memory = write
raced_status Is P course old new keeper kept status.ReadFault performs done write read memory = read
raced_status Is P course old new keeper kept status.NoMemory performs done write read memory = memory
raced_status Is P course old new keeper kept status.Usage performs done write read memory = absurd performs
raced_status Is P course old new keeper kept (status.BadScript line) performs done write read memory = absurd performs
raced_status Is P course old new keeper kept status.NoInit performs done write read memory = absurd performs
raced_status Is P course old new keeper kept (status.TooLarge limit number) performs done write read memory = absurd performs
raced_status Is P course old new keeper kept (status.BadPolicy allow line) performs done write read memory = absurd performs
raced_status Is P course old new keeper kept (status.BadStore line why) performs done write read memory = absurd performs
raced_status Is P course old new keeper kept (status.BadWire at) performs done write read memory = absurd performs
raced_status Is P course old new keeper kept status.BadTrace performs done write read memory = absurd performs

pub raced_tree : (Is : Course → Report → Type 0) (course : Course) (old new : Option (List ℕ)) (keeper kept : KeeperView) (how : Status) (world : World)
    → PerformsRace Is course old new keeper kept how → IsFitFor ToRun world → TreeSays ToRun world how
raced_tree Is course old new keeper kept how world performs fit =
    raced_status Is (λ how. TreeSays ToRun world how) course old new keeper kept how performs fit fit tt tt

pub raced_script : (Is : Course → Report → Type 0) (g : Grammar) (course : Course) (old new : Option (List ℕ)) (keeper kept : KeeperView) (how : Status) (bytes : List ℕ) (left : Option (List ℕ))
    → PerformsRace Is course old new keeper kept how → IsReadWhole g bytes left → ScriptSays g bytes left how
raced_script Is g course old new keeper kept how bytes left performs read =
    raced_status Is (λ how. ScriptSays g bytes left how) course old new keeper kept how performs read read tt tt

pub raced_store : (Is : Course → Report → Type 0) (course : Course) (old new : Option (List ℕ)) (keeper kept : KeeperView) (how : Status) (held : List ℕ)
    → PerformsRace Is course old new keeper kept how → HasStore held → StoreSays held how
raced_store Is course old new keeper kept how held performs stored =
    raced_status Is (λ how. StoreSays held how) course old new keeper kept how performs stored stored tt tt

-- ---- what a race leaves

-- a report was written whole or in part, behind what the keeper took
pub written_race : (Is : Course → Report → Type 0) (course : Course) (report : Report) (old new : Option (List ℕ)) (keeper kept : KeeperView) (how : Status)
    → Is course report → Took keeper kept (race_given course.opening report.history) → WritesText (TextOf report) old new how
    → PerformsRace Is course old new keeper kept how
written_race Is course report old new keeper kept status.Done audited took writes = (report, audited, (writes, took))
written_race Is course report old new keeper kept status.WriteFault audited took writes = (report, audited, (writes, took))
written_race Is course report old new keeper kept status.NoMemory audited took writes = inr (report, audited, inl (writes, took))
written_race Is course report old new keeper kept status.ReadFault audited took writes = absurd writes
written_race Is course report old new keeper kept status.Usage audited took writes = absurd writes
written_race Is course report old new keeper kept (status.BadScript line) audited took writes = absurd writes
written_race Is course report old new keeper kept status.NoInit audited took writes = absurd writes
written_race Is course report old new keeper kept (status.TooLarge limit number) audited took writes = absurd writes
written_race Is course report old new keeper kept (status.BadPolicy allow line) audited took writes = absurd writes
written_race Is course report old new keeper kept (status.BadStore line why) audited took writes = absurd writes
written_race Is course report old new keeper kept (status.BadWire at) audited took writes = absurd writes
written_race Is course report old new keeper kept status.BadTrace audited took writes = absurd writes

-- the keeper failed
pub failed_race : (Is : Course → Report → Type 0) (course : Course) (old : Option (List ℕ)) (keeper kept : KeeperView)
    → KeepsNot refusal.Keeper course.opening (Is course) keeper kept
    → PerformsRace Is course old old keeper kept status.ReadFault
failed_race Is course old keeper kept risks = (risks.report, risks.report_is, (refl, risks.kept))

-- memory ran out before anything was written
pub stopped_race : (Is : Course → Report → Type 0) (course : Course) (old : Option (List ℕ)) (keeper kept : KeeperView)
    → KeepsNot refusal.NoMemory course.opening (Is course) keeper kept
    → PerformsRace Is course old old keeper kept status.NoMemory
stopped_race Is course old keeper kept keeps = elim keeps [
  | inl took ↦ inl (refl, took)
  | inr risks ↦ inr (risks.report, risks.report_is, inr (refl, risks.kept))
]

-- ---- how it ends

-- a keeper that was asked for its text before the race
front_behind : (course : Course) (report : Report) (old new : Option (List ℕ)) (a b c : KeeperView) → Took a b []
    → WritesFront course report old new b c → WritesFront course report old new a c
front_behind course report old new a b c asked h = (h.0, took_then a b c [] (race_given course.opening report.history) asked h.1)

nothing_behind : (course : Course) (report : Report) (old new : Option (List ℕ)) (a b c : KeeperView) → Took a b []
    → WritesNothing course report old new b c → WritesNothing course report old new a c
nothing_behind course report old new a b c asked h = (h.0, risks_then a b c [] [] (race_given course.opening report.history) asked h.1)

-- what is told stays, where the keeper took nothing
held_stays : (held now : Option (List ℕ)) (text : List ℕ) → held ≡ Some text → Keeps held now [] → now ≡ held
held_stays held now text is keeps =
    let stays : now ≡ Some text = subst (λ told. Keeps told now []) is keeps in stays ∙ sym is

stopped_untouched : (old new : Option (List ℕ)) (a c : KeeperView) (text : List ℕ) → a.held ≡ Some text → new ≡ old → Took a c []
    → Untouched (shown_as old new a c)
stopped_untouched old new a c text is same took = record {
  written = same;
  held = held_stays a.held c.held text is took.held;
  crash = λ tells. risks_took a c [] [] took tells;
}

-- a race, or a dispatch: a form, the grammar of its scripts, and what its reports are
module _ (form : Form) (g : Grammar) (Is : Course → Report → Type 0) (comes : (told : Told) (course : Course) (report : Report)
    → IsCourseOf g told.script told.world told.held course → Is course report → ComesTo (Some form) told (Raced course report)) where
  memory_ends : (course : Course) (told : Told) (old new : Option (List ℕ)) (a b c : KeeperView) → Took a b [] → a.held ≡ Some told.held
      → IsCourseOf g told.script told.world told.held course → PerformsRace Is course old new b c status.NoMemory
      → Ends (Some form) told status.NoMemory (shown_as old new a c)
  memory_ends course told old new a b c asked held is (inl early) =
      inl (stopped_untouched old new a c told.held held early.0 (took_then a b c [] [] asked early.1))
  memory_ends course told old new a b c asked held is (inr late) =
      inr (
        Raced course late.0,
        comes told course late.0 is late.1,
        elim late.2 [
          | inl front ↦ inl (front_behind course late.0 old new a b c asked front)
          | inr nothing ↦ inr (nothing_behind course late.0 old new a b c asked nothing)
        ],
      )

  pub raced_ends : (course : Course) (told : Told) (old new : Option (List ℕ)) (a b c : KeeperView) (how : Status) → Took a b [] → a.held ≡ Some told.held
      → IsCourseOf g told.script told.world told.held course → PerformsRace Is course old new b c how → Ends (Some form) told how (shown_as old new a c)
  raced_ends course told old new a b c status.Done asked held is h =
      (Raced course h.0, comes told course h.0 is h.1, refl, (h.2.0, took_then a b c [] (race_given course.opening h.0.history) asked h.2.1))
  raced_ends course told old new a b c status.WriteFault asked held is h =
      (Raced course h.0, comes told course h.0 is h.1, front_behind course h.0 old new a b c asked h.2)
  raced_ends course told old new a b c status.ReadFault asked held is h =
      inr (Raced course h.0, comes told course h.0 is h.1, nothing_behind course h.0 old new a b c asked h.2)
  raced_ends course told old new a b c status.NoMemory asked held is h = memory_ends course told old new a b c asked held is h
  raced_ends course told old new a b c status.Usage asked held is h = absurd h
  raced_ends course told old new a b c (status.BadScript line) asked held is h = absurd h
  raced_ends course told old new a b c status.NoInit asked held is h = absurd h
  raced_ends course told old new a b c (status.TooLarge limit number) asked held is h = absurd h
  raced_ends course told old new a b c (status.BadPolicy allow line) asked held is h = absurd h
  raced_ends course told old new a b c (status.BadStore line why) asked held is h = absurd h
  raced_ends course told old new a b c (status.BadWire at) asked held is h = absurd h
  raced_ends course told old new a b c status.BadTrace asked held is h = absurd h

race_comes : (told : Told) (course : Course) (report : Report) → IsCourseOf Whole told.script told.world told.held course → IsAudited course report
    → ComesTo (Some Race) told (Raced course report)
race_comes told course report is audited = record { course_is = is; audited = audited }

dispatch_comes : (told : Told) (course : Course) (report : Report) → IsCourseOf Sets told.script told.world told.held course → IsRelayedReport course report
    → ComesTo (Some Dispatch) told (Raced course report)
dispatch_comes told course report is relayed = record { course_is = is; relayed = relayed }

pub race_ends : (course : Course) (told : Told) (old new : Option (List ℕ)) (a b c : KeeperView) (how : Status) → Took a b [] → a.held ≡ Some told.held
    → IsCourseOf Whole told.script told.world told.held course → PerformsRace IsAudited course old new b c how → Ends (Some Race) told how (shown_as old new a c)
race_ends = raced_ends Race Whole IsAudited race_comes

pub dispatch_ends : (course : Course) (told : Told) (old new : Option (List ℕ)) (a b c : KeeperView) (how : Status) → Took a b [] → a.held ≡ Some told.held
    → IsCourseOf Sets told.script told.world told.held course → PerformsRace IsRelayedReport course old new b c how
    → Ends (Some Dispatch) told how (shown_as old new a c)
dispatch_ends = raced_ends Dispatch Sets IsRelayedReport dispatch_comes

-- ---- counts

rose_from_nothing : Rose 0 0 → ⊥
rose_from_nothing rose = omega (arith, rose)

keeper_rose : (k k' k'' o o' : ℕ) → k' ≡ k → SomeReadRose (counts_of 0 0 0 k' o) (counts_of 0 0 0 k'' o') → Rose k k''
keeper_rose k k' k'' o o' same (inl rose) = absurd (rose_from_nothing rose)
keeper_rose k k' k'' o o' same (inr (inl rose)) = absurd (rose_from_nothing rose)
keeper_rose k k' k'' o o' same (inr (inr (inl rose))) = absurd (rose_from_nothing rose)
keeper_rose k k' k'' o o' same (inr (inr (inr rose))) = subst (λ x. Rose x k'') same rose

pub raced_as_before : (Is : Course → Report → Type 0) {A : Type 0} (course : Course) (old new : Option (List ℕ)) (keeper kept : KeeperView) (how : Status) (k k' k'' o o' : ℕ) (one other : A)
    → PerformsRace Is course old new keeper kept how → k' ≡ k
    → AreCounted how (counts_of 0 0 0 k' o) (counts_of 0 0 0 k'' o')
    → IsAsBefore one other how k k''
raced_as_before Is course old new keeper kept how k k' k'' o o' one other performs same =
    raced_status Is (λ how. AreCounted how (counts_of 0 0 0 k' o) (counts_of 0 0 0 k'' o') → IsAsBefore one other how k k'')
    course old new keeper kept how performs
    (λ counted. tt) (λ counted. tt) (λ counted. inr (keeper_rose k k' k'' o o' same counted.0)) (λ counted. tt)
