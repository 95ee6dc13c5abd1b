use Rattle.serial_value.proofs.write.write_as.Given as goal

abbrev pub ghosts-dirty_serial : goal.ghosts-dirty_serial
ghosts-dirty_serial g a = record { name = g.Q.Asked.name; value = g.Q.Asked.value; place = g.Q.Asked.place; index = 13 }
