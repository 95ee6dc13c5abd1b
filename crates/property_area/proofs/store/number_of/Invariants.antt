use Rattle.property_area.proofs.store.number_of.Given as goal

abbrev pub ghosts-number_at : goal.ghosts-number_at
ghosts-number_at a = record { name = a.name.now; value = a.name.now; place = a.at; index = 0 }
