use Rattle.refusal_causes.proofs.Refusals.{allow_good}
use Rattle.refusal_causes.proofs.policy.is_first_bad_allow.Goals as goal

pub returns-in-Some : goal.returns-in-Some
returns-in-Some c = c.is_at_allow.ensures c.args.contexts.now c.args.bytes.now c.in-Some.ensures

pub returns-in-None : goal.returns-in-None
returns-in-None c = (λ is. cc, λ bad. absurd (allow_good c.args.contexts.now c.args.bytes.now c.args.number c.in-None.ensures bad))
