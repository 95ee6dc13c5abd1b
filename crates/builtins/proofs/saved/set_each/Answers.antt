use Rattle.std.proofs.Common.{arith}
use Rattle.std.proofs.Math.ListN.{drop_of_length-le}
use Rattle.builtins.proofs.Savings.{ends}
use Rattle.builtins.proofs.saved.set_each.Goals as goal

pub returns-clause-done : goal.returns-clause-done
returns-clause-done g c =
    ends g.S.PropStore.meaning g.S.PropStore.told g.met.O.Outputs.joins c.args.parts.now c.loop-pair.parts c.args.pairs.now _
    (drop_of_length-le c.args.pairs.now {i = c.loop-pair.pair-index} (omega arith)) c.loop-pair.invariant.left
