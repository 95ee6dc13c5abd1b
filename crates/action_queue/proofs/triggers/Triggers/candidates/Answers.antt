use Rattle.action_queue.proofs.Indexed.{mark_triggers_none}
use Rattle.action_queue.proofs.triggers.Triggers.candidates.Goals as goal

pub returns-in-Mark : goal.returns-in-Mark
returns-in-Mark c = mark_triggers_none c.args.event.now c.args.self.now c.in-Mark.is
