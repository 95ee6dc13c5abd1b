use Rattle.machine_laws.proofs.Counted.{last_values, values_so_far}
use Rattle.machine_laws.proofs.sets.values_are_last_sets.Goals as goal

pub returns-clause-all : goal.returns-clause-all
returns-clause-all c = last_values

pub returns-clause-each : goal.returns-clause-each
returns-clause-each c = values_so_far
