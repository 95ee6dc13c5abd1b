use Rattle.property_area.specs.Readers.{opening_of}
use Rattle.property_area.proofs.writer.AreaWriter.begin.Given as goal

abbrev pub ghosts-open_log : goal.ghosts-open_log
ghosts-open_log g a = record { opening = opening_of a._config.now (g.P.PolicyView.lines a._policy.now) a.seat.now.me.0.words }
