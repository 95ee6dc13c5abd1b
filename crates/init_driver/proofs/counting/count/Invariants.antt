use Rattle.init_driver.proofs.counting.count.Given as goal

-- the area that was opened
abbrev pub ghosts-count_over : goal.ghosts-count_over
ghosts-count_over a = record { area = a.area.now }
