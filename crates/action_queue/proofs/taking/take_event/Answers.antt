use Rattle.action_queue.proofs.Kept.{kept_events, still_one}
use Rattle.action_queue.proofs.taking.take_event.Goals as goal

pub returns-in_ok-push-in-Mark-clause-kept : goal.returns-in_ok-push-in-Mark-clause-kept
returns-in_ok-push-in-Mark-clause-kept g c =
    kept_events c.args.triggers.now c.args.pending.now c.push.new.self c.requires.kept
    (still_one c.args.pending.now.events c.push.new.self c.in_ok-push-in-Mark.ensures.ok c.requires.kept.lone)
