-- The main actor's inputs, as a service takes them.
use Rattle.std.specs.Prelude.{◌≡◌, ℕ, List, ◌++◌}
use Rattle.init_machine.specs.History.{inputs_of}
use Rattle.init_machine.specs.declared.input.Input.{Input}
use Rattle.init_race.specs.Acting.{AsksInputs}
use Rattle.property_area.specs.Seats.{Seated}
use Rattle.property_service.specs.Service.{ServiceView, has_seat}

-- the main actor asked these inputs, and they are the entries that the service took; nobody entered
pub record TakesInputs (old new : ServiceView) (reader back : Seated) (inputs : List Input) : Type 0 where
  pub asks : AsksInputs reader back inputs
  pub history : inputs_of new.history ≡ inputs_of old.history ++ inputs
  pub opening : new.opening ≡ old.opening
  pub seats : (who : ℕ) → has_seat new.seat who ≡ has_seat old.seat who
