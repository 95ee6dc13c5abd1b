use Rattle.std.proofs.Common.{◌≡◌, take, sym, ◌∙◌, ap, false}
use Rattle.init_base.specs.Name.{is_legal_name}
use Rattle.prop_rules.proofs.Defaults.{not_braced, not_tested}
use Rattle.prop_rules.proofs.piece.braced.Goals as goal

pub returns-in_default : goal.returns-in_default
returns-in_default c =
    let text = c.args.inside.now in
    let illegal : is_legal_name (take c.default_place-place.result text) ≡ false = not_tested c.of.result (is_legal_name (take c.default_place-place.result text)) c.in_default.is c.of.ensures.exact in
    not_braced text (ap (λ n. is_legal_name (take n text)) (sym c.default_place-place.ensures.place) ∙ illegal)
