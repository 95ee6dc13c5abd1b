-- What is told to a printer joins.
use Rattle.std.proofs.Common.{◌≡◌, Bool, true, false, ◌||◌, List, [], ◌∷◌, ◌++◌, append-nil, append_assoc, refl, sym, ap, ◌∙◌}
use Rattle.std.proofs.lemmas.List.Folds.{list_any-append}
use Rattle.init_machine.specs.Stored.{has_stored, is_stored}
use Rattle.init_machine.specs.declared.output.Output.{Output}
use Rattle.init_trace.specs.Line.{line_text}
use Rattle.init_trace.specs.Report.{output_line}
use Rattle.init_trace.specs.Waiting.{IsTold, OutputsText}
use Rattle.outputs.specs.Joins.{Joins}

text_joins : (first then : List Output) → OutputsText (first ++ then) ≡ OutputsText first ++ OutputsText then
text_joins [] then = refl
text_joins (o ∷ first) then =
    ap (λ z. line_text (output_line o) ++ z) (text_joins first then)
    ∙ sym (append_assoc (line_text (output_line o)) (OutputsText first) (OutputsText then))

or_nothing : (b : Bool) → b ≡ (b || false)
or_nothing true = refl
or_nothing false = refl

or_joins : (a b c : Bool) → ((a || b) || c) ≡ (a || (b || c))
or_joins true b c = refl
or_joins false b c = refl

pub told_joins : Joins IsTold
told_joins = record {
  none = λ o. record { bytes = sym (append-nil o.bytes); begun = refl; stores = or_nothing o.stores };
  both = λ o p q first then one two. record {
    bytes =
        two.bytes ∙ ap (λ z. z ++ OutputsText then) one.bytes ∙ append_assoc o.bytes (OutputsText first) (OutputsText then)
        ∙ ap (λ z. o.bytes ++ z) (sym (text_joins first then));
    begun = two.begun ∙ one.begun;
    stores =
        two.stores ∙ ap (λ b. b || has_stored then) one.stores ∙ or_joins o.stores (has_stored first) (has_stored then)
        ∙ ap (λ b. o.stores || b) (sym (list_any-append is_stored first then));
  };
}
