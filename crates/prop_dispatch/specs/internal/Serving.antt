-- What the worker has served.
use Rattle.std.specs.Prelude.{◌≡◌, ℕ, ◌+◌, ◌||◌, ◌==◌, Bool, true, false, List, [], ◌∷◌, ◌++◌, length, map, All, Some, slice_get, slice_index_or}
use Rattle.atomic_table.specs.Seated.{TableId}
use Rattle.init_machine.specs.State.{Opening}
use Rattle.init_machine.specs.declared.config.Pair.{Pair}
use Rattle.init_machine.specs.declared.report.Entry.{Entry}
use Rattle.property_area.specs.Seats.{Seated}
use Rattle.property_service.specs.Back.{has_entry}
use Rattle.property_service.specs.Record.{recorded}
use Rattle.property_service.specs.Service.{Agrees, DeclaredIn, ServiceView, has_seat}
use Rattle.property_service.specs.Settings.{HasSet}
use Rattle.prop_dispatch.specs.Clients.{AreOfClients}
use Rattle.prop_dispatch.specs.Relayed.{AreServed, HasAsked, HaveAsked, IsRelayed, IsSetOf, answer_in, is_client_of}
use Rattle.prop_dispatch.specs.internal.Passing.{lists_of}
use Rattle.prop_dispatch.specs.internal.Rule.{pairs_of}
use Rattle.prop_dispatch.specs.declared.protocol.Item.{Item}
use Rattle.prop_dispatch.specs.declared.seat.Seat.{Seat}
use Rattle.prop_dispatch.specs.declared.session.Session.{Session}
use Rattle.prop_dispatch.specs.declared.verdict.Verdict.{Verdict}

-- ---- one session

-- the reader may make sets
abbrev pub MaySet : TableId → Seated → Type 0
MaySet area reader = (reader.table ≡ area) × DeclaredIn reader.view.opening reader.view.who

-- a request of the session was served: its entry comes next, the reader has it, and the verdict is noted
pub record HasServed (old new : ServiceView) (seat now : Seat) (request : Pair) : Type 0 where
  pub before : Seated
  pub after : Seated
  pub verdict : Verdict
  pub had : seat.reader ≡ Some before
  pub has : now.reader ≡ Some after
  pub verdicts : now.verdicts ≡ seat.verdicts ++ verdict ∷ []
  pub reached : has_entry (answer_in verdict) ≡ true
  pub set : HasSet old new before (Some after) request.name request.value (answer_in verdict)

-- a session is served so far, from the old service to the new one, whose history has these entries more
pub record IsServed (area : TableId) (old new : ServiceView) (who : ℕ) (requests : List Pair) (entries : List Entry) (seat : Seat) : Type 0 where
  pub reader : Seated
  pub there : seat.reader ≡ Some reader
  pub asked : HasAsked area old new who requests reader
  pub served : AreServed who requests seat.verdicts entries

-- ---- clients enter

-- the seat of a client that has just entered
pub record IsNew (area : TableId) (o : Opening) (who : ℕ) (seat : Seat) : Type 0 where
  pub reader : Seated
  pub there : seat.reader ≡ Some reader
  pub table : reader.table ≡ area
  pub client : reader.view.who ≡ who
  pub opening : reader.view.opening ≡ Some (recorded o)
  pub list : reader.view.list ≡ []
  pub verdicts : seat.verdicts ≡ []

-- the clients of these sessions have entered, and nothing else has happened
pub record HaveEntered (area : TableId) (old : ServiceView) (sessions : List Session) (now : ServiceView) (seats : List Seat) : Type 0 where
  pub opening : now.opening ≡ old.opening
  pub history : now.history ≡ old.history
  pub ready : now.spent ≡ false
  pub entered : (who : ℕ) → has_seat now.seat who ≡ (has_seat old.seat who || is_client_of sessions who)
  pub many : length seats ≡ length sessions
  pub each : (k : ℕ) (s : Session) (seat : Seat) → slice_get sessions k ≡ Some s → slice_get seats k ≡ Some seat → IsNew area old.opening s.who.0 seat

-- one more has entered
pub record HasEntered (area : TableId) (old new : ServiceView) (who : ℕ) (seats now : List Seat) : Type 0 where
  pub seat : Seat
  pub added : now ≡ seats ++ seat ∷ []
  pub is_new : IsNew area old.opening who seat
  pub opening : new.opening ≡ old.opening
  pub history : new.history ≡ old.history
  pub ready : new.spent ≡ false
  pub entered : (q : ℕ) → has_seat new.seat q ≡ (has_seat old.seat q || (who == q))

-- ---- all sessions

-- these items were served, from a service on, whose sessions' clients have entered
pub record Serves (area : TableId) (old : ServiceView) (sessions : List Session) (got : List Item) (new : ServiceView) (seats : List Seat) : Type 0 where
  pub entries : List Entry
  pub clients : AreOfClients old.opening sessions
  pub history : new.history ≡ old.history ++ entries
  pub opening : new.opening ≡ old.opening
  pub ready : new.spent ≡ false
  pub entered : (who : ℕ) → has_seat new.seat who ≡ (has_seat old.seat who || is_client_of sessions who)
  pub own : All (λ (e : Entry). IsSetOf sessions e.input) entries
  pub many : length seats ≡ length sessions
  pub each : (k : ℕ) (s : Session) (seat : Seat) → slice_get sessions k ≡ Some s → slice_get seats k ≡ Some seat
      → IsServed area old new s.who.0 (pairs_of k got) entries seat

-- so it is, unless memory ran out
abbrev pub Served : TableId → ServiceView → List Session → List Item → Bool → ServiceView → List Seat → Type 0
Served area old sessions got failed new seats = failed ≡ false → Serves area old sessions got new seats

-- so it is from some service on
abbrev pub IsServing : TableId → List Item → Bool → ServiceView → List Seat → Type 0
IsServing area got failed new seats = (old : ServiceView) × (sessions : List Session) × Served area old sessions got failed new seats

-- if these items were served, those are
abbrev pub GoesOn : TableId → List Item → Bool → ServiceView → List Seat → List Item → Bool → ServiceView → List Seat → Type 0
GoesOn area got failed service seats more failed' service' seats' =
    (old : ServiceView) (sessions : List Session) → Served area old sessions got failed service seats → Served area old sessions more failed' service' seats'

-- ---- the end

-- all requests of all sessions were served
pub record AllServed (area : TableId) (old : ServiceView) (sessions : List Session) (new : ServiceView) (seats : List Seat) : Type 0 where
  pub got : List Item
  pub serves : Serves area old sessions got new seats
  pub all : (k : ℕ) → pairs_of k got ≡ slice_index_or (lists_of sessions) k []

-- from a service with the sessions' clients all were served, unless memory ran out
abbrev pub ServesAll : TableId → List Session → Bool → ServiceView → List Seat → Bool → ServiceView → List Seat → Type 0
ServesAll area sessions failed service seats failed' service' seats' =
    (old : ServiceView) → Served area old sessions [] failed service seats → failed' ≡ false → AllServed area old sessions service' seats'

-- what a dispatch leaves
pub record IsDispatched (area : TableId) (old : ServiceView) (sessions : List Session) (new : ServiceView) (readers : List Seated) (verdicts : List (List Verdict)) : Type 0 where
  pub relayed : IsRelayed old.history sessions verdicts new.history
  pub asked : HaveAsked area old new sessions readers
  pub opening : new.opening ≡ old.opening
  pub entered : (who : ℕ) → has_seat new.seat who ≡ (has_seat old.seat who || is_client_of sessions who)
  pub ready : new.spent ≡ false
  pub agrees : Agrees new

-- ---- sessions one after another

-- the items of a session with this number
abbrev pub items_for : ℕ → List Pair → List Item
items_for number pairs = map (λ (p : Pair). record { session = number; request = p }) pairs

-- the items of sessions, one session after another, the first of which has this number
abbrev pub items_from : ℕ → List Session → List Item
items_from number [] = []
items_from number (s ∷ sessions) = items_for number s.requests ++ items_from (number + 1) sessions
