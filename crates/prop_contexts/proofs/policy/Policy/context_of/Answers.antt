use Rattle.std.proofs.Common.{◌≡◌, ℕ, List, Bor, ◌∙◌}
use Rattle.init_machine.specs.Policy.{PolicyLines, context_of}
use Rattle.init_machine.specs.declared.policy.Context.{Context}
use Rattle.prop_contexts.proofs.LookUps.{exact_found, prefix_found, default_used}
use Rattle.prop_contexts.proofs.policy.Policy.context_of.Goals as goal

-- the same look-up in the policy as it is seen, and of the name's bytes
seen : (context : Context) (inside policy : PolicyLines) (walked bytes name : Bor (List ℕ)) → context ≡ context_of inside walked.now → inside ≡ policy → walked ≡ bytes → bytes ≡ name
    → context ≡ context_of policy name.now
seen context inside policy walked bytes name found same_policy same_bytes same_name = found ∙ (λ i. context_of (same_policy i) ((same_bytes ∙ same_name) i).now)

pub returns-in-Some : goal.returns-in-Some
returns-in-Some c =
    let inside = c.self.inside in
    let lines : PolicyLines = record { default = inside.default; exact = inside.exact; prefixes = inside.prefixes; allows = inside.allows } in
    seen c.in-Some.context.now lines c.args.self.now c.walk-walked.result.name c.bytes.result c.args.name.bytes
    (exact_found lines c.walk-walked.result.name.now c.in-Some.context.now c.in-Some.ensures) c.self.view_is c.walk-walked.ensures.name c.bytes.ensures.same

pub returns-in-Some-longest : goal.returns-in-Some-longest
returns-in-Some-longest c =
    let inside = c.self.inside in
    let lines : PolicyLines = record { default = inside.default; exact = inside.exact; prefixes = inside.prefixes; allows = inside.allows } in
    seen c.in-Some-longest.context.now lines c.args.self.now c.walk-walked.result.name c.bytes.result c.args.name.bytes
    (prefix_found lines c.walk-walked.result.name.now c.in-Some-longest.context.now c.in_default.ensures c.in-Some-longest.ensures) c.self.view_is c.walk-walked.ensures.name c.bytes.ensures.same

pub returns-in-None : goal.returns-in-None
returns-in-None c =
    let inside = c.self.inside in
    let lines : PolicyLines = record { default = inside.default; exact = inside.exact; prefixes = inside.prefixes; allows = inside.allows } in
    seen lines.default lines c.args.self.now c.walk-walked.result.name c.bytes.result c.args.name.bytes
    (default_used lines c.walk-walked.result.name.now c.in_default.ensures c.in-None.ensures) c.self.view_is c.walk-walked.ensures.name c.bytes.ensures.same
