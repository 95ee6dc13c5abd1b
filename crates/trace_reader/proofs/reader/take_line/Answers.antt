use Rattle.std.proofs.lemmas.Result.{err_from_is_err_and}
use Rattle.trace_reader.proofs.Counts.{line_more}
use Rattle.trace_reader.proofs.Runs.{last_unread, line_taken, line_unread}
use Rattle.trace_reader.proofs.reader.take_line.Goals as goal

pub returns-in_default-clause-added : goal.returns-in_default-clause-added
returns-in_default-clause-added c = last_unread c.args.draft.now c.args.text.now c.requires c.in_default.ensures.parts

pub returns-in_err-add_line-clause-added : goal.returns-in_err-add_line-clause-added
returns-in_err-add_line-clause-added c =
    let p = err_from_is_err_and c.from_residual.result c.from_residual.ensures.1 in
    rw (p.1, p.2)
    (line_unread c.args.draft.now c.add_line.new.draft c.args.text.now c.in-Some.bytes.now c.in-Some.behind.now c.in_err-add_line.field-0.0 c.in-Some.ensures.parts c.in_err-add_line.ensures)

pub returns-clause-added : goal.returns-clause-added
returns-clause-added c =
    line_taken c.args.draft.now c.add_line.new.draft c.args.text.now c.in-Some.bytes.now c.in-Some.behind.now c.in-Some.ensures.parts c.in_ok-add_line.ensures

pub returns-clause-entries : goal.returns-clause-entries
returns-clause-entries c =
    line_more c.args.draft.now c.add_line.new.draft c.in-Some.bytes.now c.in_ok-add_line.ensures
