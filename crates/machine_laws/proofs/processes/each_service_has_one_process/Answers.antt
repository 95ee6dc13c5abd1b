use Rattle.machine_laws.proofs.Reaped.{services_apart, service_lives, process_is_owned}
use Rattle.machine_laws.proofs.processes.each_service_has_one_process.Goals as goal

pub returns-clause-apart : goal.returns-clause-apart
returns-clause-apart c = services_apart

pub returns-clause-lives : goal.returns-clause-lives
returns-clause-lives c = service_lives

pub returns-clause-one : goal.returns-clause-one
returns-clause-one c = process_is_owned
