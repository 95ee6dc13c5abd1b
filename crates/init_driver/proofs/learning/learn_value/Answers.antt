use Rattle.init_driver.proofs.Learned.{learned_read, same_history_then}
use Rattle.init_driver.proofs.learning.learn_value.Goals as goal

pub returns-clause-learned : goal.returns-clause-learned
returns-clause-learned g c =
    learned_read c.args.desk.now c.count.new.desk c.renew.new.desk c.args.reader c.in_ok-reader.reader c.read.new.reader c.in_ok-reader-2.reader _
    c.in_ok-reader.ensures.counted c.in_ok-reader.ensures.desk c.in_ok-reading.ensures.reader c.in_ok-reader-2.ensures.renewed c.in_ok-reader-2.ensures.desk
    (c.agrees.ensures c.in_ok-reader-2.ensures.ready) c.args.name.now c.in_ok-reading.reading c.in_ok-reading.ensures.told

pub returns-clause-desk : goal.returns-clause-desk
returns-clause-desk g c = same_history_then c.args.desk.now c.count.new.desk c.renew.new.desk c.in_ok-reader.ensures.desk c.in_ok-reader-2.ensures.desk
