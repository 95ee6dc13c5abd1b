use Rattle.std.proofs.Common.{◌≤◌, ◌==◌, ◌∙◌, not, ap, sym, subst}
use Rattle.std.specs.List.{list_all}
use Rattle.prop_rules.proofs.Expansions.{own_expansion}
use Rattle.prop_rules.proofs.expansion.stands_for_itself.Goals as goal

pub returns-then-len-le-LIMIT : goal.returns-then-len-le-LIMIT
returns-then-len-le-LIMIT c plain look_up =
    own_expansion look_up c.args.text.now (subst (λ n. n ≤ 4096) c.len.ensures c.if-len-le-LIMIT.true)
    (ap (list_all (λ b. not (b == 36))) (sym c.bytes.ensures) ∙ sym c.is_plain.ensures ∙ plain)
