use Rattle.history_laws.proofs.Settling.{step_settles, reached_settled}
use Rattle.history_laws.proofs.waits.no_file_wait_is_ripe.Goals as goal

pub returns-clause-step : goal.returns-clause-step
returns-clause-step c = step_settles

pub returns-clause-reached : goal.returns-clause-reached
returns-clause-reached c = reached_settled
