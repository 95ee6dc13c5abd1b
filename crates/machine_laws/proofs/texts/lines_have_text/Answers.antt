use Rattle.machine_laws.proofs.HasText.{step_has_text, history_has_text}
use Rattle.machine_laws.proofs.texts.lines_have_text.Goals as goal

pub returns-clause-step : goal.returns-clause-step
returns-clause-step c = step_has_text

pub returns-clause-history : goal.returns-clause-history
returns-clause-history c = history_has_text
