use Rattle.init_driver.proofs.Learned.{learned_serial, same_history_then}
use Rattle.init_driver.proofs.learning.learn_serial.Goals as goal

pub returns-clause-learned : goal.returns-clause-learned
returns-clause-learned g c =
    learned_serial c.args.desk.now c.count.new.desk c.renew.new.desk c.args.reader c.in_ok-reader.reader c.catch_up-number.new.self c.in_ok-reader-2.reader _
    c.in_ok-reader.ensures.counted c.in_ok-reader.ensures.desk c.catch_up-number.ensures.reader c.in_ok-reader-2.ensures.renewed c.in_ok-reader-2.ensures.desk
    (c.agrees.ensures c.in_ok-reader-2.ensures.ready) c.catch_up-number.result c.catch_up-number.ensures.told

pub returns-clause-desk : goal.returns-clause-desk
returns-clause-desk g c = same_history_then c.args.desk.now c.count.new.desk c.renew.new.desk c.in_ok-reader.ensures.desk c.in_ok-reader-2.ensures.desk
