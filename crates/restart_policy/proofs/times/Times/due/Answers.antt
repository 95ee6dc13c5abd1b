-- The order holds exactly the times that are kept.
use Rattle.std.proofs.Common.{ap, ◌∙◌}
use Rattle.collections.proofs.Ascending.{ascends_from_sorted}
use Rattle.restart_policy.specs.Times.{places_due}
use Rattle.restart_policy.proofs.Kept.{due_places}
use Rattle.restart_policy.proofs.times.Times.due.Goals as goal

pub returns : goal.returns
returns c =
    due_places c.args.now.0 c.self.inside.times.items c.self.inside.order c.in_ok-places.places c.self.invariant
    (ascends_from_sorted c.in_ok-places.places c.in_ok-places.ensures.ascending) c.in_ok-places.ensures.numbers
    ∙ ap (places_due c.args.now.0) c.self.view_is
