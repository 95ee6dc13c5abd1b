-- Where no mark waited, none does.
use Rattle.std.proofs.Common.{ap, ◌∙◌}
use Rattle.std.specs.List.{list_any}
use Rattle.action_queue.specs.Queue.{QueueView, value_in}
use Rattle.init_machine.specs.Matches.{matches}
use Rattle.init_machine.specs.Taking.{is_mark}
use Rattle.machine_parts.proofs.Unmarked.{none_left}
use Rattle.machine_parts.proofs.schedule.Schedule.next.Goals as goal

pub invariant_of-self-2 : goal.invariant_of-self-2
invariant_of-self-2 g c = λ before.
    let queue = c.self.inside.queue in
    ap (λ (q : QueueView). list_any is_mark q.events) c.in_ok-next.ensures.queue
    ∙ none_left (matches (value_in (g.S.PropStore.meaning c.args.store.now))) queue.actions queue.running queue.events (c.self.invariant before)
