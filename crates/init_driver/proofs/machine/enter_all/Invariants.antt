use Rattle.init_driver.proofs.Taken.{Entered}
use Rattle.init_driver.proofs.machine.enter_all.Given as goal

-- so many have entered
abbrev pub invariant-loop-place : goal.invariant-loop-place
invariant-loop-place g l = Entered g.N.AreaName.area l.initial.desk l.desk l.place l.readers.items
