use Rattle.std.proofs.Common.{not, ap, ◌∙◌}
use Rattle.prop_rules.proofs.Expansions.{none_is}
use Rattle.prop_rules.proofs.expansion.is_plain.Goals as goal

pub returns : goal.returns
returns c = ap not c.contains.ensures.value ∙ none_is 36 c.args.text.now
