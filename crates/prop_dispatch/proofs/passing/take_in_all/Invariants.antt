use Rattle.std.proofs.Common.{◌≡◌, ◌++◌, length}
use Rattle.crossbeam_queue.specs.Passes.{view, IsPassOf}
use Rattle.prop_dispatch.specs.internal.Passing.{EachFrom, puts_of}
use Rattle.prop_dispatch.specs.internal.Views.{worker_view}
use Rattle.prop_dispatch.proofs.passing.take_in_all.Given as goal

-- those that are taken in, and those that are left
abbrev pub invariant-loop-theirs : goal.invariant-loop-theirs
invariant-loop-theirs l =
    IsPassOf l.line l.pass × (view l.pass ≡ worker_view (view l.fn.pass).made (view l.fn.pass).got (view l.pass).done)
    × ((view l.pass).done ++ puts_of l.theirs-iterator.rest.items ≡ puts_of l.fn.passes.items)
    × EachFrom l.line (length (view l.pass).done) l.theirs-iterator.rest.items
