use Rattle.trace_audit.proofs.Lefts.{over_settled}
use Rattle.trace_audit.proofs.progress.MainPlace.is_over.Goals as goal

pub returns-then-self-eq0 : goal.returns-then-self-eq0
returns-then-self-eq0 c =
    over_settled c.args.acts.now c.settle.new.self _ c.settle.ensures.left c.if-self-eq0.true (c.settle.ensures.settled c.if-self-eq0.true)
