use Rattle.machine_laws.proofs.Printable.{saved_pairs_are_typed, saved_pairs_ascend, saved_pairs_print}
use Rattle.machine_laws.proofs.saved.saved_can_be_printed.Goals as goal

pub returns-clause-pairs : goal.returns-clause-pairs
returns-clause-pairs c = saved_pairs_print

pub returns-clause-order : goal.returns-clause-order
returns-clause-order c = saved_pairs_ascend

pub returns-clause-typed : goal.returns-clause-typed
returns-clause-typed c = saved_pairs_are_typed
