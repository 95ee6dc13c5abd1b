use Rattle.std.proofs.Common.{Some, ◌∙◌, sym, ap}
use Rattle.prop_contexts.proofs.LookUps.{allowed, one_default}
use Rattle.prop_contexts.proofs.policy.Policy.read.Goals as goal

pub returns-clause-policy : goal.returns-clause-policy
returns-clause-policy c =
    let read = c.in_ok-lines.ensures.read in
    let made = c.in_ok-default.ensures.pair in
    let named = c.in-Some.ensures.pair in
    let names = ap (λ p. p.1) made.0 ∙ named.1 in
    let allows = allowed c.args.allow.now c.read_allowances.result _ made.1 c.read_allowances.ensures.read in
    record {
      contexts_are_fit = read.fit;
      default = one_default c.args.contexts.now c.in_ok-lines.field-0 c.in_ok-default.default read (named.0 ∙ ap (λ d. Some d) (sym (ap (λ p. p.0) made.0)));
      exact = sym (ap (λ given. given.exact) read.are) ∙ sym (ap (λ p. p.0) names);
      prefixes = sym (ap (λ given. given.prefixes) read.are) ∙ sym (ap (λ p. p.1) names);
      allows_are_fit = allows.fit;
      allows = sym allows.are;
    }
