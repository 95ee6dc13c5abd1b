use Rattle.property_area.proofs.writer.AreaWriter.take_in.Given as goal

abbrev pub ghosts-join_in : goal.ghosts-join_in
ghosts-join_in a = record { who = 0; seat = a.reader.id; words = a.seat.now.me.0.words }
