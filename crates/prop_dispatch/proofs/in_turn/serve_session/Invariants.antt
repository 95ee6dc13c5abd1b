use Rattle.std.proofs.Common.{◌≡◌, ◌++◌, List}
use Rattle.init_machine.specs.declared.config.Pair.{Pair}
use Rattle.prop_dispatch.specs.internal.Serving.{GoesOn, items_for}
use Rattle.prop_dispatch.specs.declared.protocol.Item.{Item}
use Rattle.prop_dispatch.proofs.in_turn.serve_session.Given as goal

-- the first requests are served
abbrev pub invariant-loop-request : goal.invariant-loop-request
invariant-loop-request g l =
    (done : List Pair) × (done ++ l.request-iterator.rest.items ≡ l.fn.requests)
    × ((got : List Item) → GoesOn g.N.AreaName.area got l.fn.worker.failed l.fn.worker.service l.fn.worker.seats.items
    (got ++ items_for l.session done) l.worker.failed l.worker.service l.worker.seats.items)
