use Rattle.history_laws.proofs.Ending.{history_ends, step_ends}
use Rattle.history_laws.proofs.Settling.{set_step}
use Rattle.history_laws.proofs.answers.sets_end_with_answers.Goals as goal

pub returns-clause-history : goal.returns-clause-history
returns-clause-history c = history_ends

pub returns-clause-step : goal.returns-clause-step
returns-clause-step c = step_ends

pub returns-clause-asking : goal.returns-clause-asking
returns-clause-asking c = set_step
