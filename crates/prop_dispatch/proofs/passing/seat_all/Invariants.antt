use Rattle.std.proofs.Common.{◌≡◌, ◌++◌, [], List, length}
use Rattle.crossbeam_queue.specs.Passes.{view, IsPassOf}
use Rattle.prop_dispatch.specs.internal.Passing.{EachSeated}
use Rattle.prop_dispatch.specs.internal.Views.{worker_view}
use Rattle.prop_dispatch.specs.declared.session.Session.{Session}
use Rattle.prop_dispatch.proofs.passing.seat_all.Given as goal

-- those that have their passes, and what is left
abbrev pub invariant-loop-session : goal.invariant-loop-session
invariant-loop-session l =
    IsPassOf l.line l.pass × (view l.pass ≡ worker_view (length l.senders.items) [] [])
    × ((done : List Session) × (done ++ l.session-iterator.rest.items ≡ l.fn.sessions)
    × (length done ≡ length l.senders.items) × EachSeated l.line 0 done l.senders.items)
