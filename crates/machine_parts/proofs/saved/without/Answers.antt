-- What is kept has another name.
use Rattle.std.proofs.Common.{rules, ◌∙◌, ap}
use Rattle.std.proofs.lemmas.Fn.{filter_same}
use Rattle.init_machine.specs.Pairs.{without_name}
use Rattle.machine_parts.proofs.saved.without.Goals as goal

pub returns : goal.returns
returns c =
    c.from_vec.ensures ∙ filter_same _ _ _ (λ x b f' k. search rules) _ _ c.retain.ensures.filtered ∙ ap (λ pairs. without_name pairs c.args.name.now) c.into_vec-kept.ensures
