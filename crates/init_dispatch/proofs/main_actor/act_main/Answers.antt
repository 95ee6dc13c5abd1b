use Rattle.init_dispatch.proofs.MainActor.{acts_go_on}
use Rattle.init_dispatch.proofs.main_actor.act_main.Goals as goal

pub loop-act-preserved : goal.loop-act-preserved
loop-act-preserved g c =
    acts_go_on c.args.service.now c.loop-act.service c.take_act.new.service c.args.reader c.loop-act.reader c.in_ok-reader.reader c.args.acts.now
    c.loop-act.act-index c.act-item.result c.loop-act-test.true c.act-item.is c.loop-act.invariant c.in_ok-reader.ensures
