use Rattle.std.proofs.Common.{◌≡◌}
use Rattle.crossbeam_queue.specs.Passes.{view, IsPassOf}
use Rattle.prop_dispatch.specs.internal.Serving.{GoesOn}
use Rattle.prop_dispatch.specs.internal.Views.{worker_view}
use Rattle.prop_dispatch.proofs.worker.work.Given as goal

-- what was popped is served
abbrev pub invariant-loop : goal.invariant-loop
invariant-loop g l =
    IsPassOf l.line l.pass × (view l.pass ≡ worker_view (view l.fn.pass).made (view l.pass).got (view l.fn.pass).done)
    × GoesOn g.N.AreaName.area (view l.fn.pass).got l.fn.worker.failed l.fn.worker.service l.fn.worker.seats.items
    (view l.pass).got l.worker.failed l.worker.service l.worker.seats.items
