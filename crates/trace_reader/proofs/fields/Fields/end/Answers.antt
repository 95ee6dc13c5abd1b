use Rattle.std.proofs.Common.{refl, sym, ap, ◌∙◌}
use Rattle.std.specs.Option.{option_copied}
use Rattle.trace_reader.specs.Split.{fields_in, is_space}
use Rattle.trace_reader.proofs.Cuts.{no_parts}
use Rattle.trace_reader.proofs.fields.Fields.end.Goals as goal

pub returns-in-Some : goal.returns-in-Some
returns-in-Some c = (
  refl,
  λ e. no_parts is_space c.in-Some.field-0.now (sym (ap (λ r. fields_in (option_copied r)) c.in-Some.is) ∙ c.self.view_is ∙ e),
)
