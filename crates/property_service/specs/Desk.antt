-- What a desk keeps.
use Rattle.std.specs.Prelude.{◌≡◌, ◌≤◌, ℕ, ◌+◌, Bool, false, List, [], length}
use Rattle.std.specs.List.{slice_index_or}
use Rattle.atomic_table.specs.Seated.{TableId}
use Rattle.init_core.specs.Core.{CoreView, without_saved}
use Rattle.property_area.specs.Area.{list_in}
use Rattle.property_area.specs.Seats.{Seated}
use Rattle.property_service.specs.Service.{ServiceView, Agrees, recorded_service, state_after, has_seat}

-- The core stands over the area, goes by the opening of this service, and is in the state after its history. So many clients have
-- seats as is noted, and no client that has none was told anything or asked anything.
pub record DeskKeeps (area : TableId) (s : ServiceView) (core : CoreView Seated) (seats : List Bool) : Type 0 where
  pub agrees : Agrees s
  pub table : core.store.table ≡ area
  pub ready : core.spent ≡ false
  pub config : core.config ≡ without_saved s.opening.config
  pub policy : core.policy ≡ s.opening.policy
  pub state : core.state ≡ state_after s
  pub few : length s.opening.config.domains ≤ 64
  pub wide : length seats ≡ length s.opening.config.domains + 1
  pub seated : (who : ℕ) → slice_index_or seats who false ≡ has_seat s.seat who
  pub idle : (who : ℕ) → list_in s.seat.clients who ≡ []

-- the service is the one that the writer's record tells
abbrev pub DeskHolds : TableId → CoreView Seated → List Bool → Type 0
DeskHolds area core seats = DeskKeeps area (recorded_service core.store.view false) core seats
