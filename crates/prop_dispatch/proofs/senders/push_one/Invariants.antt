use Rattle.std.proofs.Common.{◌≡◌}
use Rattle.crossbeam_queue.specs.Passes.{view, IsPassOf}
use Rattle.prop_dispatch.proofs.senders.push_one.Given as goal

-- nothing is pushed yet
abbrev pub invariant-loop : goal.invariant-loop
invariant-loop g l =
    IsPassOf l.line l.pass × (view l.pass ≡ view l.fn.pass) × (l.item ≡ l.fn.item)
