use Rattle.machine_laws.proofs.Counted.{numbers_count, sets_count}
use Rattle.machine_laws.proofs.sets.sets_are_counted.Goals as goal

pub returns-clause-numbers : goal.returns-clause-numbers
returns-clause-numbers c = numbers_count

pub returns-clause-count : goal.returns-clause-count
returns-clause-count c = sets_count
