use Rattle.machine_laws.proofs.Legal.{legal_beginning}
use Rattle.machine_laws.proofs.histories.beginning_is_legal.Goals as goal

pub returns : goal.returns
returns c = legal_beginning
