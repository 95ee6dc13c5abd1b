use Rattle.serial_value.proofs.read.read_cell.Given as goal

abbrev pub ghosts-read_as : goal.ghosts-read_as
ghosts-read_as g a = record { name = a.name.now; value = a.name.now; place = a.at; index = 0 }
