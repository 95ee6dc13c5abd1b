-- A service is declared exactly where it has a place.
use Rattle.std.proofs.Common.{not, ap}
use Rattle.std.specs.Str.{bytes_eq}
use Rattle.init_machine.specs.Choices.{only_if}
use Rattle.init_machine.specs.declared.output.SetRefusal.TheVariants.{NoSuchService}
use Rattle.machine_parts.proofs.Places.{none_passes, some_passes}
use Rattle.machine_parts.proofs.operations.find_service.Goals as goal

pub returns-in-Some-clause-answer : goal.returns-in-Some-clause-answer
returns-in-Some-clause-answer c =
    ap (λ has. only_if (not has) NoSuchService) (some_passes (λ service. bytes_eq service.name c.args.name.now) c.args.services.now.defs c.in-Some.at c.in-Some.ensures)

pub returns-in-None-clause-answer : goal.returns-in-None-clause-answer
returns-in-None-clause-answer c =
    ap (λ has. only_if (not has) NoSuchService) (none_passes (λ service. bytes_eq service.name c.args.name.now) c.args.services.now.defs c.in-None.ensures)
