-- The passes of sessions: who has one, and what comes back with it.
use Rattle.std.specs.Prelude.{◌≡◌, ⊤, ℕ, ◌+◌, List, [], ◌∷◌, map, Option}
use Rattle.crossbeam_queue.specs.Passes.{Pass, view, IsPassOf}
use Rattle.crossbeam_queue.specs.declared.array_queue.Doing.{Doing}
use Rattle.crossbeam_queue.specs.declared.array_queue.Slotted.{Slotted}
use Rattle.init_machine.specs.declared.config.Pair.{Pair}
use Rattle.prop_dispatch.specs.internal.Views.{session_view}
use Rattle.prop_dispatch.specs.declared.protocol.Item.{Item}
use Rattle.prop_dispatch.specs.declared.protocol.View.{View}
use Rattle.prop_dispatch.specs.declared.senders.Sender.{Sender}
use Rattle.prop_dispatch.specs.declared.session.Session.{Session}

-- the requests of each session
abbrev pub lists_of : List Session → List (List Pair)
lists_of sessions = map (λ (s : Session). s.requests) sessions

-- what passes have pushed
abbrev pub puts_of : List (Pass Item View) → List (List Pair)
puts_of passes = map (λ (p : Pass Item View). (view p).put) passes

module _ {Q A : Type 0} (line : Slotted (Option Item) (Doing Item View) Q A) where
  -- the session has its pass, and has pushed nothing yet
  abbrev pub MayPush : Sender → Type 0
  MayPush sender = IsPassOf line sender.pass × (view sender.pass ≡ session_view sender.session [])

  -- a session's pass comes back, and all its requests are pushed
  abbrev pub HasPushed : Sender → Pass Item View → Type 0
  HasPushed sender pass = IsPassOf line pass × (view pass ≡ session_view sender.session sender.requests)

  -- each session has its pass; the first of these has this number
  abbrev pub EachSeated : ℕ → List Session → List Sender → Type 0
  EachSeated number [] [] = ⊤
  EachSeated number [] (sender ∷ senders) = ⊥
  EachSeated number (session ∷ sessions) [] = ⊥
  EachSeated number (session ∷ sessions) (sender ∷ senders) =
      MayPush sender × (sender.session ≡ number) × (sender.requests ≡ session.requests) × EachSeated (number + 1) sessions senders

  -- each session has pushed all its requests
  abbrev pub EachPushed : List Sender → List (Pass Item View) → Type 0
  EachPushed [] [] = ⊤
  EachPushed [] (pass ∷ passes) = ⊥
  EachPushed (sender ∷ senders) [] = ⊥
  EachPushed (sender ∷ senders) (pass ∷ passes) = HasPushed sender pass × EachPushed senders passes

  -- these are passes of sessions, the first of which has this number
  abbrev pub EachFrom : ℕ → List (Pass Item View) → Type 0
  EachFrom number [] = ⊤
  EachFrom number (pass ∷ passes) = IsPassOf line pass × (view pass ≡ session_view number (view pass).put) × EachFrom (number + 1) passes
