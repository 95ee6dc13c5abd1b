use Rattle.serial_value.proofs.write.write_cell.Given as goal

abbrev pub ghosts-write_as : goal.ghosts-write_as
ghosts-write_as g a = record { name = a.name.now; value = a.value.now; place = a.at; index = 0 }
