-- The sessions are of different clients, which are declared and haven't entered.
use Rattle.std.proofs.Common.{◌≡◌, ℕ, ◌+◌, ◌<◌, ◌≤◌, false, ◌==◌, ◌||◌, All, List, [], ◌∷◌, length, refl, ap, ◌∙◌, arith, ne_eqb}
use Rattle.std.proofs.lemmas.List.Elements.{All-cons, All-nil}
use Rattle.init_machine.specs.State.{Opening}
use Rattle.prop_dispatch.specs.Clients.{AreDifferent, AreOfClients, HaveNotEntered}
use Rattle.prop_dispatch.specs.Relayed.{is_client_of}
use Rattle.prop_dispatch.specs.declared.session.Session.{Session}
use Rattle.property_area.specs.declared.view.AreaView.{AreaView}
use Rattle.property_service.specs.Service.{has_seat}
use Rattle.script_lang.specs.declared.script.Act.{Act}
use Rattle.init_dispatch.specs.internal.Sessions.{AreSessions}

declared : (acts : List Act) (who n : ℕ) (sessions : List Session) → AreSessions acts who sessions → 1 ≤ who → who + length sessions ≤ n + 1
    → All (λ (s : Session). (1 ≤ s.who.0) × (s.who.0 ≤ n)) sessions
declared acts who n [] are least most = All-nil _
declared acts who n (s ∷ sessions) are least most =
    let client = are.0.client in
    All-cons (λ (x : Session). (1 ≤ x.who.0) × (x.who.0 ≤ n)) s sessions (omega arith, omega arith) (declared acts (who + 1) n sessions are.1 (omega arith) (omega arith))

-- no session is of a client before the first one's
none_before : (acts : List Act) (who other : ℕ) (sessions : List Session) → AreSessions acts who sessions → other < who
    → is_client_of sessions other ≡ false
none_before acts who other [] are less = refl
none_before acts who other (s ∷ sessions) are less =
    let client = are.0.client in
    let differs : (s.who.0 == other) ≡ false = ne_eqb s.who.0 other (λ same. absurd (omega arith)) in
    ap (λ found. found || is_client_of sessions other) differs ∙ none_before acts (who + 1) other sessions are.1 (omega arith)

different : (acts : List Act) (who : ℕ) (sessions : List Session) → AreSessions acts who sessions → AreDifferent sessions
different acts who [] are = tt
different acts who (s ∷ sessions) are =
    let client = are.0.client in
    (none_before acts (who + 1) s.who.0 sessions are.1 (omega arith), different acts (who + 1) sessions are.1)

pub are_clients : (o : Opening) (acts : List Act) (sessions : List Session) → AreSessions acts 1 sessions → length sessions ≤ length o.config.domains
    → AreOfClients o sessions
are_clients o acts sessions are few = record {
  declared = declared acts 1 (length o.config.domains) sessions are (omega arith) (omega arith);
  different = different acts 1 sessions are;
}

not_entered : (acts : List Act) (who : ℕ) (seat : AreaView) (sessions : List Session) → AreSessions acts who sessions → 1 ≤ who
    → ((q : ℕ) → has_seat seat q ≡ (0 == q)) → HaveNotEntered seat sessions
not_entered acts who seat [] are least nobody = All-nil _
not_entered acts who seat (s ∷ sessions) are least nobody =
    let client = are.0.client in
    let other : (0 == s.who.0) ≡ false = ne_eqb 0 s.who.0 (λ same. absurd (omega arith)) in
    All-cons (λ (x : Session). has_seat seat x.who.0 ≡ false) s sessions (nobody s.who.0 ∙ other) (not_entered acts (who + 1) seat sessions are.1 (omega arith) nobody)

pub have_not_entered : (acts : List Act) (seat : AreaView) (sessions : List Session) → AreSessions acts 1 sessions
    → ((q : ℕ) → has_seat seat q ≡ (0 == q)) → HaveNotEntered seat sessions
have_not_entered acts seat sessions are nobody = not_entered acts 1 seat sessions are (omega arith) nobody
