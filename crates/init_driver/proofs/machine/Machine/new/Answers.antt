use Rattle.std.proofs.Common.{ap, ◌∙◌}
use Rattle.init_core.specs.Core.{opening_of}
use Rattle.property_area.specs.Seats.{Seated}
use Rattle.init_driver.proofs.Taken.{first_of, none_seated}
use Rattle.init_driver.proofs.machine.Machine.new.Goals as goal

pub open-requires-clause-nobody : goal.open-requires-clause-nobody
open-requires-clause-nobody g c = none_seated c.in_ok-desk.desk.seat c.in_ok-desk.ensures.empty.1

pub returns-clause-state : goal.returns-clause-state
returns-clause-state g c =
    let ok = c.in_ok-desk.ensures in
    first_of c.open.result c.in_ok-desk.desk (opening_of c.args.config c.args.policy c.args.seat.view.words) c.open.ensures.desk c.open.ensures.fits
    (ok.opening ∙ ap (λ (s : Seated). opening_of c.args.config c.args.policy s.view.words) c.new-writer.ensures) ok.empty.0
