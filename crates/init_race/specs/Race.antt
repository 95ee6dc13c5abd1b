-- What a race leaves: its report, the record of the area's writer, and what the keeper is given.
use Rattle.std.specs.Prelude.{◌≡◌, ◌≤◌, ℕ, ◌+◌, ◌⊎◌, ⊤, All, List, [], ◌∷◌, length, Some, Result, Ok, Err, IsOkAnd, if◌then◌else◌}
use Rattle.std.specs.List.{list_any}
use Rattle.init_base.specs.declared.memory.NoMemory.{NoMemory}
use Rattle.init_driver.specs.Keeper.{KeeperView, Risks, Took}
use Rattle.init_machine.specs.History.{after, inputs_of}
use Rattle.init_machine.specs.Orderly.{readings_in}
use Rattle.init_machine.specs.State.{Opening}
use Rattle.init_machine.specs.declared.diagnostic.Diagnostic.{Diagnostic}
use Rattle.init_machine.specs.declared.report.ClientPart.{ClientPart}
use Rattle.init_machine.specs.declared.report.Entry.{Entry}
use Rattle.init_machine.specs.declared.report.Report.{Report}
use Rattle.machine_laws.specs.Saved.{has_stored}
use Rattle.persist_file.specs.Store.{store_text}
use Rattle.property_area.specs.Area.{list_in}
use Rattle.property_area.specs.Seats.{Seated}
use Rattle.property_area.specs.declared.view.AreaView.{AreaView}
use Rattle.property_service.specs.Ending.{HasItsPart, HasReader, taking_all}
use Rattle.property_service.specs.Record.{recorded, log_of}
use Rattle.property_service.specs.Service.{Agrees, ServiceView, state_after}
use Rattle.property_service.specs.declared.ending.Finished.{Finished}
use Rattle.script_lang.specs.declared.script.Script.{Script}
use Rattle.trace_audit.specs.Audited.{Audited}
use Rattle.init_race.specs.declared.racing.Ended.{Ended}
use Rattle.init_race.specs.declared.racing.Raced.{Raced}
use Rattle.init_race.specs.declared.refusal.RaceRefusal.{RaceRefusal}
use Rattle.init_race.specs.declared.refusal.RaceRefusal.TheVariants as refusal

-- ---- the service has ended

-- some service has ended, to which these readers were given back
pub record HasEnded (readers : List Seated) (finished : Finished) : Type 0 where
  pub service : ServiceView
  pub agrees : Agrees service
  pub parts : All (HasItsPart service) readers
  pub history : finished.history ≡ service.history
  pub saved : finished.saved ≡ (state_after service).saved
  pub policy : finished.policy ≡ service.opening.policy
  pub seat : finished.seat.view ≡ taking_all service.seat readers

-- whatever service these readers have their parts of, the main actor and each of its clients has one of them
abbrev pub AreAll : List Seated → Type 0
AreAll readers =
    (s : ServiceView) → All (HasItsPart s) readers → (who : ℕ) → who ≤ length s.opening.config.domains → HasReader readers who

-- ---- the record

-- the list of each client has the readings of its part; the first of these parts is that of the client with this number
abbrev pub HaveReadings : AreaView → ℕ → List ClientPart → Type 0
HaveReadings view who [] = ⊤
HaveReadings view who (part ∷ parts) = (readings_in (list_in view.clients who) ≡ part.readings) × HaveReadings view (who + 1) parts

-- the writer of an area has recorded this opening and this history, and each client was told by the area what its part has
pub record HasRecorded (o : Opening) (history : List Entry) (parts : List ClientPart) (view : AreaView) : Type 0 where
  pub opening : view.opening ≡ Some (recorded o)
  pub log : view.log ≡ log_of history
  pub told : HaveReadings view 1 parts

-- ---- the whole

-- what the actors of a script leave, from an opening
pub record AreRaced (o : Opening) (script : Script) (finished : Finished) (parts : List ClientPart) : Type 0 where
  pub audited : (found : List Diagnostic) → Audited o found script (record { diagnostics = found; history = finished.history; clients = parts })
  pub recorded_is : HasRecorded o finished.history parts finished.seat.view
  pub saved : finished.saved ≡ (after o (inputs_of finished.history)).saved
  pub policy : finished.policy ≡ o.policy

-- what the keeper is given behind a race: the text of the pairs that are saved then, where some entry stores a property
abbrev pub race_given : Opening → List Entry → List (List ℕ)
race_given o history =
    if list_any (λ e. has_stored e.outputs) history then store_text o.policy (after o (inputs_of history)).saved ∷ [] else []

-- a race was run to its end, with such a report, and the keeper may or may not have taken what it was given
pub record RisksReport (o : Opening) (Is : Report → Type 0) (old new : KeeperView) : Type 0 where
  pub report : Report
  pub report_is : Is report
  pub kept : old.TellsCrash → Risks old new [] (race_given o report.history)

-- what stands with the keeper after a race that was refused
abbrev pub KeepsNot : RaceRefusal → Opening → (Report → Type 0) → KeeperView → KeeperView → Type 0
KeepsNot refusal.Keeper o Is old new = RisksReport o Is old new
KeepsNot refusal.NoMemory o Is old new = Took old new [] ⊎ RisksReport o Is old new

-- what stands with the keeper after a race, of a report that is so
abbrev pub KeepsReport : Opening → (Report → Type 0) → Result Raced RaceRefusal → KeeperView → KeeperView → Type 0
KeepsReport o Is (Ok raced) old new = Took old new (race_given o raced.report.history)
KeepsReport o Is (Err e) old new = KeepsNot e o Is old new

abbrev pub KeepsRace : Opening → List Diagnostic → Script → Result Raced RaceRefusal → KeeperView → KeeperView → Type 0
KeepsRace o found script result old new = KeepsReport o (λ report. Audited o found script report) result old new

-- the report of what actors left
abbrev pub IsReportOf : List Diagnostic → Result Ended NoMemory → Report → Type 0
IsReportOf found ended report = IsOkAnd ended (λ e. report ≡ record { diagnostics = found; history = e.finished.history; clients = e.parts })
