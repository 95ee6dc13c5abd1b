use Rattle.property_area.proofs.writer.AreaWriter.synced.Given as goal

abbrev pub ghosts-tell_count : goal.ghosts-tell_count
ghosts-tell_count a = record { who = a._who.0; seat = 0; words = 0 }
