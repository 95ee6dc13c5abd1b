use Rattle.init_dispatch.proofs.OnlySets.{is_run_of_read}
use Rattle.init_dispatch.proofs.Orders.{is_run_of_order}
use Rattle.init_dispatch.proofs.laws.each_dispatch_is_a_run.Goals as goal

pub returns-clause-met : goal.returns-clause-met
returns-clause-met c = is_run_of_order

pub returns-clause-read : goal.returns-clause-read
returns-clause-read c = is_run_of_read
