use Rattle.wire_format.proofs.Readings.{stream_len}
use Rattle.wire_format.proofs.Spellings.{spelling_len}
use Rattle.wire_format.proofs.laws.lengths_give_places.Goals as goal

pub returns-clause-lengths : goal.returns-clause-lengths
returns-clause-lengths c = spelling_len

pub returns-clause-places : goal.returns-clause-places
returns-clause-places c = stream_len
