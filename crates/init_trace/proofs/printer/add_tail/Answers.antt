use Rattle.std.proofs.lemmas.Result.{err_from_is_err_and}
use Rattle.init_trace.specs.Line.{line_text, lines_text}
use Rattle.init_trace.specs.Report.{clients_lines, end_fields}
use Rattle.init_trace.proofs.Adding.{adds_last, front_of_more}
use Rattle.init_trace.proofs.Texts.{tail_parts}
use Rattle.init_trace.proofs.printer.add_tail.Goals as goal

pub returns-in_err-add_parts-clause-added : goal.returns-in_err-add_parts-clause-added
returns-in_err-add_parts-clause-added g c =
    let p = err_from_is_err_and c.from_residual.result c.from_residual.ensures.1 in
    rw (p.1, tail_parts) (front_of_more _ _ _ (lines_text (clients_lines 1 c.args.parts.now)) (line_text end_fields) c.in_err-add_parts.ensures.added)

pub returns-clause-added : goal.returns-clause-added
returns-clause-added g c =
    rw tail_parts (adds_last _ _ _ _ _ _ _ (lines_text (clients_lines 1 c.args.parts.now)) (line_text end_fields) c.in_ok-add_parts.ensures.added c.add_line.ensures.added)
