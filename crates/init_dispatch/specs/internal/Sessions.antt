-- The sessions of a script's clients.
use Rattle.std.specs.Prelude.{◌≡◌, ℕ, ◌+◌, ⊤, List, [], ◌∷◌}
use Rattle.std.specs.List.{filter_map}
use Rattle.init_machine.specs.declared.config.Pair.{Pair}
use Rattle.prop_dispatch.specs.declared.session.Session.{Session}
use Rattle.script_lang.specs.Inputs.{ask_by}
use Rattle.script_lang.specs.Laws.{set_in}
use Rattle.script_lang.specs.declared.script.Act.{Act}

-- what a client sets among acts, in order
abbrev pub sets_among : ℕ → List Act → List Pair
sets_among who acts = filter_map set_in (filter_map (ask_by who) acts)

-- the session is a client's, with what it sets among the acts
pub record IsSession (acts : List Act) (who : ℕ) (session : Session) : Type 0 where
  pub client : session.who.0 ≡ who
  pub requests : session.requests ≡ sets_among who acts

-- so it is of each session; the first is that of the client with this number
abbrev pub AreSessions : List Act → ℕ → List Session → Type 0
AreSessions acts who [] = ⊤
AreSessions acts who (session ∷ sessions) = IsSession acts who session × AreSessions acts (who + 1) sessions
