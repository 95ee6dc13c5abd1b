use Rattle.trace_reader.proofs.Frames.{answer}
use Rattle.trace_reader.proofs.piece.pieces_are_of_one_report.Goals as goal

pub returns : goal.returns
returns c = answer
