use Rattle.init_base.proofs.SameBytes.{by_halves}
use Rattle.init_base.proofs.comparing.same_halves.Goals as goal

pub returns : goal.returns
returns c =
    by_halves c.args.one.now c.args.other.now c.requires.many c.requires.least c.requires.most _ _ c.same_half.ensures c.same_half-2.ensures
