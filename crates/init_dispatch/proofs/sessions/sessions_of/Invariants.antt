use Rattle.std.proofs.Common.{◌≡◌, length}
use Rattle.init_dispatch.specs.internal.Sessions.{AreSessions}
use Rattle.init_dispatch.proofs.sessions.sessions_of.Given as goal

-- the sessions of the clients so far
abbrev pub invariant-loop-place : goal.invariant-loop-place
invariant-loop-place l = record {
  sessions_are : AreSessions l.script.acts 1 l.sessions;
  many : length l.sessions ≡ l.place;
}
