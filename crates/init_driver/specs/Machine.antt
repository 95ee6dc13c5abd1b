-- The machine of a run, which serves an area, with the readers of its main actor and of its clients.
use Rattle.std.specs.Prelude.{◌≡◌, ℕ, zero, suc, ◌+◌, ⊤, Bool, false, List, [], ◌∷◌, length, Option, Some, None}
use Rattle.atomic_table.specs.Seated.{TableId}
use Rattle.init_core.specs.Core.{without_saved}
use Rattle.init_machine.specs.Changes.{Change}
use Rattle.init_machine.specs.Orderly.{readings_in}
use Rattle.init_machine.specs.Policy.{PolicyLines}
use Rattle.init_machine.specs.State.{Opening, State}
use Rattle.init_machine.specs.Step.{step}
use Rattle.init_machine.specs.declared.config.Config.{Config}
use Rattle.init_machine.specs.declared.input.Input.{Input}
use Rattle.init_machine.specs.declared.output.Output.{Output}
use Rattle.init_machine.specs.declared.report.Entry.{Entry}
use Rattle.init_machine.specs.declared.report.Reading.{Reading}
use Rattle.property_area.specs.Seats.{Seated}
use Rattle.property_service.specs.Record.{recorded}
use Rattle.property_service.specs.Service.{ServiceView, state_after}

-- What it goes by, its state, the desk, and the readers: that of the main actor, and then those of the clients; and whether memory
-- ran out at a call. The saved pairs of the configuration are in the state; no step reads those of the configuration.
pub record MachineView : Type 0 where
  pub config : Config
  pub policy : PolicyLines
  pub state : State
  pub desk : ServiceView
  pub readers : List (Option Seated)
  pub spent : Bool

-- the machine over a desk
abbrev pub machine_of : ServiceView → List (Option Seated) → Bool → MachineView
machine_of desk readers spent = record {
  config = without_saved desk.opening.config;
  policy = desk.opening.policy;
  state = state_after desk;
  desk = desk;
  readers = readers;
  spent = spent;
}

-- an input with its outputs
abbrev pub entry_of : Input → List Output → Entry
entry_of i outputs = record { input = i; outputs = outputs }

-- what the next input does
abbrev pub step_of : MachineView → Input → Change
step_of m i = step m.config m.policy m.state i

-- the readings that a client was told
abbrev pub told_by_reader : Option Seated → List Reading
told_by_reader None = []
told_by_reader (Some reader) = readings_in reader.view.list

-- the readings that the client with this number was told; the main actor's number is 0
abbrev pub told_to : List (Option Seated) → ℕ → List Reading
told_to [] who = []
told_to (reader ∷ readers) zero = told_by_reader reader
told_to (reader ∷ readers) (suc who) = told_to readers who

-- the reader is that of the client with this number, at the area, and knows the opening
pub record IsSeated (area : TableId) (o : Opening) (who : ℕ) (reader : Seated) : Type 0 where
  pub table : reader.table ≡ area
  pub who_is : reader.view.who ≡ who
  pub opening : reader.view.opening ≡ Some (recorded o)

-- each of these clients has a reader; the first one has this number
abbrev pub EachSeated : TableId → Opening → ℕ → List (Option Seated) → Type 0
EachSeated area o who [] = ⊤
EachSeated area o who (None ∷ readers) = ⊥
EachSeated area o who (Some reader ∷ readers) = IsSeated area o who reader × EachSeated area o (who + 1) readers

-- what holds of a machine while memory lasts: the main actor and each client that the configuration declares has a reader
pub record AllSeated (area : TableId) (desk : ServiceView) (readers : List (Option Seated)) : Type 0 where
  pub ready : desk.spent ≡ false
  pub each : EachSeated area desk.opening 0 readers
  pub wide : length readers ≡ length desk.opening.config.domains + 1

-- the machine goes by the same, is in the same state, and has the same history
pub record StaysSo (a b : MachineView) : Type 0 where
  pub config : b.config ≡ a.config
  pub policy : b.policy ≡ a.policy
  pub state : b.state ≡ a.state
  pub opening : b.desk.opening ≡ a.desk.opening
  pub history : b.desk.history ≡ a.desk.history
