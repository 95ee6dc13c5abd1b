use Rattle.std.proofs.Common.{◌≡◌, true, false, refl, ◌∙◌}
use Rattle.std.proofs.lemmas.Bool.{false_from_ne_true}
use Rattle.init_base.specs.Name.{is_legal_name}
use Rattle.persist_file.proofs.reading.is_legal.Goals as goal

pub returns : goal.returns
returns c =
    elim (is_legal_name c.args.name.now) as (λ v. is_legal_name c.args.name.now ≡ v → c.is_some.result ≡ v) [
      | true ↦ λ legal. c.is_some.ensures ∙ c.of.ensures.exact.1 legal
      | false ↦ λ other. c.is_some.ensures ∙ false_from_ne_true _ (λ some. let legal : is_legal_name c.args.name.now ≡ true = c.of.ensures.exact.0 some in cc)
    ] refl
