use Rattle.std.proofs.lemmas.Result.{on_ok_weaker}
use Rattle.init_core.proofs.Asks.{pair_set}
use Rattle.init_core.proofs.boot.set_pair.Goals as goal

pub returns-clause-done : goal.returns-clause-done
returns-clause-done g c =
    let set = c.in_ok-refused.ensures in
    on_ok_weaker c.add_refusal.result (pair_set g.met.O.Outputs.joins c.args.parts.now c.set_by.new.parts c.add_refusal.new.outputs c.args.pair.now c.in_ok-refused.refused set.done set.refused) c.add_refusal.ensures
