-- The events of a boot, and behind them the mark.
use Rattle.machine_parts.proofs.Booting.{boots}
use Rattle.machine_parts.proofs.schedule.Schedule.boot.Goals as goal

pub returns : goal.returns
returns c =
    boots c.args.self.now c.event.new.self c.event-2.new.self c.event-3.new.self c.self.inside.queue c.event-4.new.self c.self.inside.had_boot _ _ c.args.last
    c.in_ok-event.ensures c.in_ok-of.ensures c.in_ok-event-2.ensures c.in_ok-of-2.ensures c.in_ok-event-3.ensures c.self.view_is c.in_ok-event-4.ensures.ok
