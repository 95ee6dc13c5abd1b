use Rattle.prop_contexts.specs.Grammar.{IsPolicy}
use Rattle.refusal_causes.proofs.Refusals.{refused_or_not}
use Rattle.refusal_causes.proofs.policy.refusal_of.Goals as goal

pub returns : goal.returns
returns c =
    refused_or_not c.args.contexts.now c.args.allow.now c.read.result c.err.result (λ policy. IsPolicy c.args.contexts.now c.args.allow.now policy) c.err.ensures.value c.read.ensures.policy
    (λ policy is why refused. c.each_text_has_one_reading.ensures.not_both c.args.contexts.now c.args.allow.now policy why is refused) c.read.ensures.refused
