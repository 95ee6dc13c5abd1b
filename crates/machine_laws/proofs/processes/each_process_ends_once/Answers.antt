use Rattle.machine_laws.proofs.Pids.{pids_count}
use Rattle.machine_laws.proofs.Reaped.{spawned_before, not_reaped_before}
use Rattle.machine_laws.proofs.processes.each_process_ends_once.Goals as goal

pub returns-clause-pids : goal.returns-clause-pids
returns-clause-pids c = pids_count

pub returns-clause-spawned : goal.returns-clause-spawned
returns-clause-spawned c = spawned_before

pub returns-clause-once : goal.returns-clause-once
returns-clause-once c = not_reaped_before
