use Rattle.init_base.specs.Lines.{lines_of}
use Rattle.trace_causes.proofs.Shorter.{behind_first}
use Rattle.trace_causes.proofs.bad_line.bad_line.Goals as goal

pub bad_up_to-requires-clause-more : goal.bad_up_to-requires-clause-more
bad_up_to-requires-clause-more c =
    behind_first (lines_of c.args.text.now) c.args.count c.requires.some c.requires.title (rw c.in-Some.is at c.in_ok-stop_line.ensures)
