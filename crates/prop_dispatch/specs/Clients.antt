-- Whose sessions a dispatch takes.
use Rattle.std.specs.Prelude.{◌≡◌, ◌≤◌, ⊤, false, List, [], ◌∷◌, length, All}
use Rattle.init_machine.specs.State.{Opening}
use Rattle.property_area.specs.declared.view.AreaView.{AreaView}
use Rattle.property_service.specs.Service.{has_seat}
use Rattle.prop_dispatch.specs.Relayed.{is_client_of}
use Rattle.prop_dispatch.specs.declared.session.Session.{Session}

-- no two of the sessions are of one client
abbrev pub AreDifferent : List Session → Type 0
AreDifferent [] = ⊤
AreDifferent (s ∷ sessions) = (is_client_of sessions s.who.0 ≡ false) × AreDifferent sessions

-- the sessions are of different clients, which the opening declares
pub record AreOfClients (o : Opening) (sessions : List Session) : Type 0 where
  pub declared : All (λ (s : Session). (1 ≤ s.who.0) × (s.who.0 ≤ length o.config.domains)) sessions
  pub different : AreDifferent sessions

-- none of the sessions' clients has entered
abbrev pub HaveNotEntered : AreaView → List Session → Type 0
HaveNotEntered seat sessions = All (λ (s : Session). has_seat seat s.who.0 ≡ false) sessions
