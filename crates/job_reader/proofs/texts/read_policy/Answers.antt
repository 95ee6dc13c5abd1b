use Rattle.std.proofs.Common.{◌∙◌}
use Rattle.rc_import.proofs.Outcomes.{err_is, told}
use Rattle.job_reader.specs.Stops.{GivesPolicy}
use Rattle.job_reader.proofs.TreeTexts.{policy_read, policy_refused, read_as, unread_allow, unread_contexts}
use Rattle.job_reader.proofs.texts.read_policy.Goals as goal

pub returns-in_err-contexts-clause-policy : goal.returns-in_err-contexts-clause-policy
returns-in_err-contexts-clause-policy g c = λ world is.
    err_is (GivesPolicy world) _ _ c.from_residual.ensures
    (unread_contexts world c.in_err-contexts.field-0.0 (told _ _ world.tree is.tree_is c.in_err-contexts.ensures.text))

pub returns-in_err-allow-clause-policy : goal.returns-in_err-allow-clause-policy
returns-in_err-allow-clause-policy g c = λ world is.
    err_is (GivesPolicy world) _ _ c.from_residual-in_err-allow.ensures
    (unread_allow world c.in_err-allow.field-0.0 (told _ _ world.tree (c.in_ok-contexts.ensures.tree ∙ is.tree_is) c.in_err-allow.ensures.text))

pub returns-in_err-read-clause-policy : goal.returns-in_err-read-clause-policy
returns-in_err-read-clause-policy g c = λ world is.
    err_is (GivesPolicy world) _ _ c.from_residual-in_err-read.ensures
    (policy_refused world c.bytes.result.now c.bytes-2.result.now c.in_err-read.field-0.0
    (read_as _ _ _ c.bytes.ensures (told _ _ world.tree is.tree_is c.in_ok-contexts.ensures.text))
    (read_as _ _ _ c.bytes-2.ensures (told _ _ world.tree (c.in_ok-contexts.ensures.tree ∙ is.tree_is) c.in_ok-allow.ensures.text))
    c.in_err-read.ensures.refused)

pub returns-clause-policy : goal.returns-clause-policy
returns-clause-policy g c = λ world is.
    policy_read world c.bytes.result.now c.bytes-2.result.now c.in_ok-read.field-0
    (read_as _ _ _ c.bytes.ensures (told _ _ world.tree is.tree_is c.in_ok-contexts.ensures.text))
    (read_as _ _ _ c.bytes-2.ensures (told _ _ world.tree (c.in_ok-contexts.ensures.tree ∙ is.tree_is) c.in_ok-allow.ensures.text))
    c.in_ok-read.ensures.policy
