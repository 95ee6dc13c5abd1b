-- How a service ends.
use Rattle.std.specs.Prelude.{◌≡◌, ◌≤◌, ◌<◌, ◌⊎◌, ℕ, true, List, [], ◌∷◌, length, Some}
use Rattle.init_base.specs.declared.units.ClientId.{ClientId}
use Rattle.init_machine.specs.History.{sets_of}
use Rattle.property_area.specs.Area.{requests_in, requests_of}
use Rattle.property_area.specs.Readers.{ClientStands, client_of, taking}
use Rattle.property_area.specs.Seats.{Seated, sets_in}
use Rattle.property_area.specs.declared.view.AreaView.{AreaView}
use Rattle.property_service.specs.Record.{recorded, log_of}
use Rattle.property_service.specs.Service.{ServiceView, has_seat}

-- What a reader has, once it is given back. It knows the service's opening. Its requests are the part of the history that is its
-- client's. What it was told stands in the sets of the history, with no set being made, and is in order; and its reads met few
-- writes.
pub record HasItsPart (s : ServiceView) (reader : Seated) : Type 0 where
  pub opening : reader.view.opening ≡ Some (recorded s.opening)
  pub asked : requests_in reader.view.list ≡ requests_of reader.view.who (log_of s.history)
  pub stands : ClientStands (sets_of s.history) (client_of reader.view)

-- the same by the writer's view
pub record HasPart (seat : AreaView) (reader : Seated) : Type 0 where
  pub opening : reader.view.opening ≡ seat.opening
  pub asked : requests_in reader.view.list ≡ requests_of reader.view.who seat.log
  pub stands : ClientStands (sets_in seat) (client_of reader.view)

-- the writer's view, once these readers are given back, the last one first
abbrev pub taking_all : AreaView → List Seated → AreaView
taking_all seat [] = seat
taking_all seat (reader ∷ readers) = taking (taking_all seat readers) reader.view

-- one of these readers is the client's
abbrev pub HasReader : List Seated → ℕ → Type 0
HasReader [] who = ⊥
HasReader (reader ∷ readers) who = (reader.view.who ≡ who) ⊎ HasReader readers who

-- a client that entered has no reader among these
abbrev pub IsMissing : ServiceView → List Seated → ℕ → Type 0
IsMissing s readers who = (has_seat s.seat who ≡ true) × ¬ HasReader readers who

-- the least client that entered and has no reader among these
abbrev pub IsFirstMissing : ServiceView → List Seated → ClientId → Type 0
IsFirstMissing s readers who =
    IsMissing s readers who.0 × ((q : ℕ) → q < who.0 → ¬ IsMissing s readers q) × (who.0 ≤ length s.opening.config.domains)
