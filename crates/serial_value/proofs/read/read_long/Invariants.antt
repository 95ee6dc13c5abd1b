use Rattle.serial_value.proofs.read.read_long.Given as goal

abbrev pub ghosts-copied_word : goal.ghosts-copied_word
ghosts-copied_word g a = record { name = g.Q.Asked.name; value = g.Q.Asked.value; place = g.Q.Asked.place; index = a.k }
