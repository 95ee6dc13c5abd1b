use Rattle.std.proofs.Common.{sym, ◌∙◌}
use Rattle.std.specs.Option.{option_copied}
use Rattle.rc_parse.proofs.Windows.{no_name, at_closing}
use Rattle.rc_parse.proofs.critical.default_window.Goals as goal

pub returns-then-not-is_legal_name : goal.returns-then-not-is_legal_name
returns-then-not-is_legal_name c =
    no_name c.args.text.now c.in_ok-front.front.now c.in_ok-front.back.now c.in_ok-name.name.now c.in_ok-front.ensures c.in_ok-name.ensures
    (sym c.is_legal_name.ensures ∙ c.if-not-is_legal_name.true)

pub returns : goal.returns
returns c =
    at_closing c.args.text.now c.in_ok-front.front.now c.in_ok-front.back.now c.in_ok-name.name.now (option_copied c.before_closing.result)
    c.in_ok-front.ensures c.in_ok-name.ensures (sym c.is_legal_name.ensures ∙ c.if-not-is_legal_name.false) c.before_closing.ensures
