use Rattle.std.proofs.Common.{sym, ap, ◌∙◌}
use Rattle.init_base.specs.Name.{is_legal_name}
use Rattle.prop_rules.proofs.Defaults.{not_tested}
use Rattle.prop_rules.proofs.Views.{illegal_stays}
use Rattle.prop_rules.proofs.view.put_legal.Goals as goal

pub returns-in_default : goal.returns-in_default
returns-in_default c =
    illegal_stays c.args.view.now.props c.args.pair.now
    (sym (ap is_legal_name c.bytes.ensures) ∙ not_tested c.of.result (is_legal_name c.bytes.result.now) c.in_default.is c.of.ensures.exact)
