use Rattle.std.proofs.Common.{◌∙◌, sym, ap}
use Rattle.init_machine.specs.Props.{number_of}
use Rattle.property_area.proofs.store.number_of.Goals as goal

pub returns-in_err-at-clause-number : goal.returns-in_err-at-clause-number
returns-in_err-at-clause-number c = c.from_residual.ensures ∙ sym (ap number_of c.in_err-at.ensures.absent)
