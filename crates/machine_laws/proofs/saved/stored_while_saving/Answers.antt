use Rattle.machine_laws.proofs.Stored.{stores_while_saving}
use Rattle.machine_laws.proofs.saved.stored_while_saving.Goals as goal

pub returns : goal.returns
returns c = stores_while_saving
