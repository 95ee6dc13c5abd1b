-- One output, told to a printer.
use Rattle.std.proofs.Common.{◌≡◌, Bool, true, false, ◌||◌, [], ◌∷◌, ◌++◌, Result, Ok, Err, append-nil, refl, sym, ap, ◌∙◌}
use Rattle.std.specs.Result.{OnOk}
use Rattle.init_machine.specs.Stored.{is_stored}
use Rattle.init_machine.specs.declared.output.Output.{Output}
use Rattle.init_trace.specs.Line.{line_text}
use Rattle.init_trace.specs.Report.{output_line}
use Rattle.init_trace.specs.Waiting.{IsTold, Waiting}

or_nothing : (b : Bool) → b ≡ (b || false)
or_nothing true = refl
or_nothing false = refl

pub told_one : {T E : Type 0} (r : Result T E) (o n : Waiting) (output : Output) → OnOk r (n.bytes ≡ o.bytes ++ line_text (output_line output)) → n.begun ≡ o.begun
    → n.stores ≡ (o.stores || is_stored output) → OnOk r (IsTold o n (output ∷ []))
told_one (Ok v) o n output bytes begun stores = record {
  bytes = bytes ∙ ap (λ z. o.bytes ++ z) (sym (append-nil (line_text (output_line output))));
  begun = begun;
  stores = stores ∙ ap (λ b. o.stores || b) (or_nothing (is_stored output));
}
told_one (Err e) o n output bytes begun stores = tt
