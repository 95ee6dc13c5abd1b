-- The readers with which the actors of a race begin.
use Rattle.std.specs.Prelude.{◌≡◌, ℕ, ◌+◌, ◌++◌, ⊤, nat_le, List, [], ◌∷◌, length, Some}
use Rattle.atomic_table.specs.Seated.{TableId}
use Rattle.init_machine.specs.State.{Opening}
use Rattle.init_machine.specs.declared.client.ClientItem.TheVariants.{Asked}
use Rattle.init_machine.specs.declared.client.ClientRequest.{ClientRequest}
use Rattle.init_machine.specs.declared.input.Input.TheVariants as input
use Rattle.property_area.specs.Seats.{Seated}
use Rattle.property_area.specs.declared.view.AreaView.{AreaView}
use Rattle.property_service.specs.Record.{recorded}
use Rattle.property_service.specs.Service.{ServiceView, has_seat}

-- the main actor's reader has asked the boot, which is the first entry, and nothing else
pub record IsBooted (o : Opening) (view : AreaView) : Type 0 where
  pub who : view.who ≡ 0
  pub opening : view.opening ≡ Some (recorded o)
  pub boot : ClientRequest
  pub list : view.list ≡ Asked boot ∷ []
  pub boots : boot.input ≡ input.Boot
  pub first : boot.place ≡ 1

-- the reader is this client's, which has asked nothing
pub record IsSeated (area : TableId) (o : Opening) (client : ℕ) (reader : Seated) : Type 0 where
  pub table : reader.table ≡ area
  pub who : reader.view.who ≡ client
  pub opening : reader.view.opening ≡ Some (recorded o)
  pub list : reader.view.list ≡ []

-- each client has its reader; the first of these is that of the client with this number
abbrev pub EachSeated : TableId → Opening → ℕ → List Seated → Type 0
EachSeated area o client [] = ⊤
EachSeated area o client (reader ∷ readers) = IsSeated area o client reader × EachSeated area o (client + 1) readers

-- the first clients have their readers, the main actor has its own, and nobody else has one
pub record AreSeated (area : TableId) (o : Opening) (s : ServiceView) (readers : List Seated) : Type 0 where
  pub opening : s.opening ≡ o
  pub seats : (who : ℕ) → has_seat s.seat who ≡ nat_le who (length readers)
  pub each : EachSeated area o 1 readers

-- each of so many clients has its reader, and behind them stands the main actor's
pub record AllSeated (area : TableId) (o : Opening) (many : ℕ) (readers : List Seated) : Type 0 where
  pub clients : List Seated
  pub main : Seated
  pub all : readers ≡ clients ++ main ∷ []
  pub table : main.table ≡ area
  pub booted : IsBooted o main.view
  pub each : EachSeated area o 1 clients
  pub many_are : length clients ≡ many
