use Rattle.property_area.proofs.writer.AreaWriter.hand_out.Given as goal

abbrev pub ghosts-split_off : goal.ghosts-split_off
ghosts-split_off a = record { who = a._who.0; seat = 0; words = 0 }
