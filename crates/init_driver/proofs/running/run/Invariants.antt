use Rattle.init_driver.proofs.running.run.Given as goal

-- the area that was opened
abbrev pub ghosts-run_over : goal.ghosts-run_over
ghosts-run_over g a = record { area = a.area.now }
