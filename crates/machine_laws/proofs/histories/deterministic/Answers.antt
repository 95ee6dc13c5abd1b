use Rattle.machine_laws.proofs.Legal.{same_history}
use Rattle.machine_laws.proofs.histories.deterministic.Goals as goal

pub returns : goal.returns
returns c = same_history
