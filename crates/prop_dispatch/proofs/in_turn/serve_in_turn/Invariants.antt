use Rattle.std.proofs.Common.{◌≡◌, ◌+◌, ◌++◌, [], List, length}
use Rattle.prop_dispatch.specs.internal.Serving.{GoesOn, items_from}
use Rattle.prop_dispatch.specs.declared.protocol.Item.{Item}
use Rattle.prop_dispatch.proofs.in_turn.serve_in_turn.Given as goal

-- the first sessions are served, and what is left decides
abbrev pub invariant-loop-session : goal.invariant-loop-session
invariant-loop-session g l =
    (got : List Item) × (got ++ items_from l.number l.session-iterator.rest.items ≡ items_from 0 l.fn.sessions)
    × (l.number + length l.session-iterator.rest.items ≡ length l.fn.sessions)
    × GoesOn g.N.AreaName.area [] l.fn.worker.failed l.fn.worker.service l.fn.worker.seats.items got l.worker.failed l.worker.service l.worker.seats.items
