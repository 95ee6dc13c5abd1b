use Rattle.machine_laws.proofs.Legal.{by_place}
use Rattle.machine_laws.proofs.histories.legal_by_place.Goals as goal

pub returns : goal.returns
returns c = by_place
