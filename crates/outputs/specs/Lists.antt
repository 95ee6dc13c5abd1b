-- What is told to a list is added at its end.
use Rattle.std.proofs.Common.{◌≡◌, ◌++◌, List, sym, ap, ◌∙◌, append_assoc}
use Rattle.std.proofs.lemmas.List.{append-nil}
use Rattle.init_machine.specs.declared.output.Output.{Output}
use Rattle.outputs.specs.Joins.{Joins}

abbrev pub Appends : List Output → List Output → List Output → Type 0
Appends old new lines = new ≡ old ++ lines

pub appends_join : Joins Appends
appends_join = record {
  none = λ o. sym (append-nil o);
  both = λ o p q first then is more. more ∙ ap (λ (outs : List Output). outs ++ then) is ∙ append_assoc o first then;
}
