use Rattle.persist_file.proofs.Whole.{line_refused}
use Rattle.persist_file.proofs.reading.take_line.Goals as goal

pub returns-in-Err-clause-taken : goal.returns-in-Err-clause-taken
returns-in-Err-clause-taken c =
    rw (c.unfit-in-Err.ensures, c.len.ensures)
    (line_refused c.args.version c.args.pairs.now c.args.bytes.now c.in-Some.line.now c.in-Some.behind.now c.in-Err.cause c.in-Some.ensures.parts (rw c.in-Err.is at c.in_ok-pair.ensures))
