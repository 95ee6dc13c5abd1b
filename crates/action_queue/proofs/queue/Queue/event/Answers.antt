use Rattle.std.proofs.Common.{◌∙◌, ap}
use Rattle.std.specs.List.{list_any}
use Rattle.init_machine.specs.Taking.{is_mark}
use Rattle.action_queue.specs.Queue.{QueueView}
use Rattle.action_queue.proofs.Kept.{kept_events, one_mark}
use Rattle.action_queue.proofs.queue.Queue.event.Goals as goal

pub invariant_of-self-2 : goal.invariant_of-self-2
invariant_of-self-2 c =
    kept_events c.self.inside.triggers c.self.inside.pending c.push.new.self c.self.invariant
    (one_mark c.self.inside.pending.events c.push.new.self c.args.what c.in_ok-push.ensures.ok c.self.invariant.lone
    (λ is. ap (λ (q : QueueView). list_any is_mark q.events) c.self.view_is ∙ c.requires is))
