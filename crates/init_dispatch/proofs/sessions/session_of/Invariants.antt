use Rattle.std.proofs.Common.{◌≡◌, take}
use Rattle.init_dispatch.specs.internal.Sessions.{sets_among}
use Rattle.init_dispatch.proofs.sessions.session_of.Given as goal

-- the sets of the acts so far
abbrev pub invariant-loop-act : goal.invariant-loop-act
invariant-loop-act l = l.requests ≡ sets_among l.who.0 (take l.act-index l.acts)
