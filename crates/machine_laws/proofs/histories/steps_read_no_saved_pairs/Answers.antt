use Rattle.machine_laws.proofs.Legal.{same_step, same_after}
use Rattle.machine_laws.proofs.histories.steps_read_no_saved_pairs.Goals as goal

pub returns-clause-step : goal.returns-clause-step
returns-clause-step c = same_step

pub returns-clause-states : goal.returns-clause-states
returns-clause-states c = same_after
