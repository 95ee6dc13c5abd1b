-- No moment stands before the first one.
use Rattle.collections.proofs.Held.{none_due}
use Rattle.collections.proofs.agenda.is_free.Goals as goal

pub returns-in-Some : goal.returns-in-Some
returns-in-Some c = λ late n. none_due c.args.now n c.in-Some.moment.now c.args.moments.now.keys late c.in-Some.ensures.all_from
