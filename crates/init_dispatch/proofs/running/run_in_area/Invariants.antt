use Rattle.init_dispatch.proofs.running.run_in_area.Given as goal

-- the run is over this area
abbrev pub ghosts-run_over : goal.ghosts-run_over
ghosts-run_over g a = record { area = a.area.now }
