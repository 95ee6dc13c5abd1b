-- What is told to a counter joins.
use Rattle.std.proofs.Common.{◌≡◌, List, [], ◌∷◌, ◌++◌, refl, sym, ap, ◌∙◌}
use Rattle.init_machine.specs.declared.output.Output.{Output}
use Rattle.outputs.specs.Joins.{Joins}
use Rattle.soak_summary.specs.Counts.{Counts, IsCounted, with_output, with_outputs}

outputs_then : (c : Counts) (first then : List Output) → with_outputs c (first ++ then) ≡ with_outputs (with_outputs c first) then
outputs_then c [] then = refl
outputs_then c (o ∷ first) then = outputs_then (with_output c o) first then

pub told_joins : Joins IsCounted
told_joins = record {
  none = λ o. refl;
  both = λ o p q first then one two. two ∙ ap (λ (c : Counts). with_outputs c then) one ∙ sym (outputs_then o first then);
}
