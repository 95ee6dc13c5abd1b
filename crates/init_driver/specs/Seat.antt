-- What the seat of the area's writer has recorded when a run is done.
use Rattle.std.specs.Prelude.{◌≡◌, ℕ, ◌+◌, ⊤, List, [], ◌∷◌, Some}
use Rattle.std.specs.List.{flat_map}
use Rattle.init_machine.specs.Orderly.{readings_in}
use Rattle.init_machine.specs.State.{Opening}
use Rattle.init_machine.specs.declared.report.ClientPart.{ClientPart}
use Rattle.init_machine.specs.declared.report.Reading.{Reading}
use Rattle.init_machine.specs.declared.report.Reading.TheVariants as reading
use Rattle.init_machine.specs.declared.report.Report.{Report}
use Rattle.property_area.specs.Area.{list_in}
use Rattle.property_area.specs.declared.view.AreaView.{AreaView}
use Rattle.property_service.specs.Record.{recorded, log_of}

-- What the area tells a client whose request is answered by a reading: before a look-up the count of sets, which is the reading's number.
abbrev pub told_with : Reading → List Reading
told_with (reading.Found name number value) = reading.Synced number ∷ reading.Found name number value ∷ []
told_with (reading.Absent name number) = reading.Synced number ∷ reading.Absent name number ∷ []
told_with (reading.Again name number first second) = reading.Synced number ∷ reading.Again name number first second ∷ []
told_with (reading.Synced number) = reading.Synced number ∷ []
told_with (reading.Caught number) = reading.Synced number ∷ reading.Caught number ∷ []

-- each client was told what its part has; the first of these parts is that of the client with this number
abbrev pub AreTold : (ℕ → List Reading) → ℕ → List ClientPart → Type 0
AreTold told who [] = ⊤
AreTold told who (part ∷ parts) = (told who ≡ flat_map told_with part.readings) × AreTold told (who + 1) parts

-- the readings in the list of each client
abbrev pub readings_at : AreaView → ℕ → List Reading
readings_at view who = readings_in (list_in view.clients who)

-- the writer of an area has recorded this opening and the history of the report, and each client was told by the area what its part
-- has
pub record HasRecorded (o : Opening) (report : Report) (view : AreaView) : Type 0 where
  pub opening : view.opening ≡ Some (recorded o)
  pub log : view.log ≡ log_of report.history
  pub told : AreTold (readings_at view) 1 report.clients
