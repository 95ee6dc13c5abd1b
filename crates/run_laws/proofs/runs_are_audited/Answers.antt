use Rattle.run_laws.proofs.Whole.{run_is_audited, read_is_audited}
use Rattle.run_laws.proofs.runs_are_audited.Goals as goal

pub returns-clause-met : goal.returns-clause-met
returns-clause-met c = run_is_audited

pub returns-clause-read : goal.returns-clause-read
returns-clause-read c = read_is_audited
