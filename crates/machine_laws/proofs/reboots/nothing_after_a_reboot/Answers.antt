use Rattle.machine_laws.proofs.Down.{later_refuse}
use Rattle.machine_laws.proofs.Over.{no_deeds_behind, over_by_reboot}
use Rattle.machine_laws.proofs.reboots.nothing_after_a_reboot.Goals as goal

pub returns-clause-lines : goal.returns-clause-lines
returns-clause-lines c = no_deeds_behind

pub returns-clause-over : goal.returns-clause-over
returns-clause-over c = over_by_reboot

pub returns-clause-entries : goal.returns-clause-entries
returns-clause-entries c = later_refuse
