use Rattle.init_race.proofs.Gathered.{one_there}
use Rattle.init_race.proofs.threads.all_of.Goals as goal

pub loop-option-preserved : goal.loop-option-preserved
loop-option-preserved c =
    one_there c.loop-option.all.items c.add.new.all.items c.in-Some.option c.loop-option.option-iterator.rest.items c.next.new.self.rest.items
    c.args.options.items c.loop-option.invariant c.in-Some.ensures.steps.0 c.in_ok-add.ensures
