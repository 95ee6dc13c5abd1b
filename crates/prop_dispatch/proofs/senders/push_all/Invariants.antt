use Rattle.std.proofs.Common.{◌≡◌, ◌++◌}
use Rattle.crossbeam_queue.specs.Passes.{view, IsPassOf}
use Rattle.prop_dispatch.specs.internal.Views.{session_view}
use Rattle.prop_dispatch.proofs.senders.push_all.Given as goal

-- those that were pushed, and what is left
abbrev pub invariant-loop-request : goal.invariant-loop-request
invariant-loop-request g l =
    IsPassOf l.line l.pass × (view l.pass ≡ session_view l.fn.sender.session (view l.pass).put)
    × ((view l.pass).put ++ l.request-iterator.rest.items ≡ l.fn.sender.requests)
