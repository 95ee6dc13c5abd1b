-- The sessions of a script's clients, one after another.
use Rattle.std.proofs.Common.{◌≡◌, ℕ, ◌+◌, ◌<◌, List, [], ◌∷◌, ◌++◌, length, get_or, take, sym, ap, ◌∙◌, subst, arith}
use Rattle.std.specs.List.{filter_map}
use Rattle.std.proofs.lemmas.List.{take_more}
use Rattle.std.proofs.lemmas.List.Elements.{filter_map-append}
use Rattle.prop_dispatch.specs.declared.session.Session.{Session}
use Rattle.script_lang.specs.Inputs.{ask_by}
use Rattle.script_lang.specs.Laws.{set_in}
use Rattle.script_lang.specs.declared.script.Act.{Act}
use Rattle.init_dispatch.specs.internal.Sessions.{AreSessions, IsSession, sets_among}

-- the set of an act more
pub sets_more : (who : ℕ) (acts : List Act) (k : ℕ) (act : Act) → k < length acts → act ≡ get_or acts k act
    → sets_among who (take k acts) ++ sets_among who (act ∷ []) ≡ sets_among who (take (k + 1) acts)
sets_more who acts k act within at =
    let split : take (k + 1) acts ≡ take k acts ++ act ∷ [] = take_more acts k act within ∙ ap (λ a. take k acts ++ a ∷ []) (sym at) in
    sym (ap (sets_among who) split ∙ ap (filter_map set_in) (filter_map-append (ask_by who) (take k acts) (act ∷ []))
    ∙ filter_map-append set_in (filter_map (ask_by who) (take k acts)) (filter_map (ask_by who) (act ∷ [])))

-- a session more
pub sessions_more : (acts : List Act) (who : ℕ) (sessions : List Session) (last : Session) → AreSessions acts who sessions
    → IsSession acts (who + length sessions) last → AreSessions acts who (sessions ++ last ∷ [])
sessions_more acts who [] last are this = (let e : who + 0 ≡ who = omega arith in subst (λ n. IsSession acts n last) e this, tt)
sessions_more acts who (s ∷ sessions) last are this = (
  are.0,
  sessions_more acts (who + 1) sessions last are.1
      (let e : who + length (s ∷ sessions) ≡ who + 1 + length sessions = omega arith in subst (λ n. IsSession acts n last) e this),
)

-- the session that is made for the client at this place
pub session_next : (acts shown : List Act) (place : ℕ) (sessions : List Session) (session : Session) → session.who.0 ≡ place + 1
    → session.requests ≡ sets_among (place + 1) shown → shown ≡ acts → length sessions ≡ place → IsSession acts (1 + length sessions) session
session_next acts shown place sessions session client requests same many =
    let e : place + 1 ≡ 1 + length sessions = omega (arith, many) in record {
      client = client ∙ e;
      requests = requests ∙ ap (sets_among (place + 1)) same ∙ ap (λ n. sets_among n acts) e;
    }
