use Rattle.prop_contexts.proofs.Readers.{same_policy, same_refusal, not_both, policy_or_refused}
use Rattle.prop_contexts.proofs.laws.each_text_has_one_reading.Goals as goal

pub returns-clause-policy : goal.returns-clause-policy
returns-clause-policy c = same_policy

pub returns-clause-refusal : goal.returns-clause-refusal
returns-clause-refusal c = same_refusal

pub returns-clause-not_both : goal.returns-clause-not_both
returns-clause-not_both c = not_both

pub returns-clause-one_of_both : goal.returns-clause-one_of_both
returns-clause-one_of_both c = policy_or_refused
