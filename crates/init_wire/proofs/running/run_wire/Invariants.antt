use Rattle.init_wire.proofs.running.run_wire.Given as goal

-- the machine is over this area
abbrev pub ghosts-serve_over : goal.ghosts-serve_over
ghosts-serve_over g a = record { area = a.area.now }
