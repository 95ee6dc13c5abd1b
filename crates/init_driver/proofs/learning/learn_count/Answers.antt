use Rattle.init_driver.proofs.Learned.{learned_count}
use Rattle.init_driver.proofs.learning.learn_count.Goals as goal

pub returns-clause-learned : goal.returns-clause-learned
returns-clause-learned g c =
    learned_count c.args.desk.now c.count.new.desk c.args.reader c.in_ok-reader.reader c.in_ok-reader.number c.in_ok-reader.ensures.counted c.in_ok-reader.ensures.desk (c.agrees.ensures c.in_ok-reader.ensures.ready)
