use Rattle.machine_laws.proofs.Begun.{runs_in_order, commands_follow}
use Rattle.machine_laws.proofs.commands.commands_run_in_order.Goals as goal

pub returns-clause-actions : goal.returns-clause-actions
returns-clause-actions c = runs_in_order

pub returns-clause-restarts : goal.returns-clause-restarts
returns-clause-restarts c = commands_follow
