use Rattle.std.proofs.Common.{take}
use Rattle.prop_dispatch.specs.internal.Serving.{HaveEntered}
use Rattle.prop_dispatch.proofs.entering.enter_all.Given as goal

-- the first clients have entered
abbrev pub invariant-loop-session : goal.invariant-loop-session
invariant-loop-session g l = HaveEntered g.N.AreaName.area l.fn.service (take l.session-index l.sessions) l.service l.seats.items
