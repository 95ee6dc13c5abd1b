use Rattle.wire_format.proofs.Joining.{joined, joined_more}
use Rattle.wire_format.proofs.laws.pieces_join.Goals as goal

pub returns-clause-joined : goal.returns-clause-joined
returns-clause-joined c = joined

pub returns-clause-more : goal.returns-clause-more
returns-clause-more c = joined_more
