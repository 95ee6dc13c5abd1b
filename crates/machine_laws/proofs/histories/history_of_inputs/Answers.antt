use Rattle.machine_laws.proofs.Legal.{history_is_legal, inputs_of_history, only_history}
use Rattle.machine_laws.proofs.histories.history_of_inputs.Goals as goal

pub returns-clause-legal : goal.returns-clause-legal
returns-clause-legal c = history_is_legal

pub returns-clause-inputs : goal.returns-clause-inputs
returns-clause-inputs c = inputs_of_history

pub returns-clause-only : goal.returns-clause-only
returns-clause-only c = only_history
