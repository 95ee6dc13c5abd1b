use Rattle.std.proofs.Common.{map}
use Rattle.std.proofs.lemmas.Result.{err_from_is_err_and}
use Rattle.init_trace.specs.Fields.{head_fields}
use Rattle.init_trace.specs.Line.{line_text, lines_text}
use Rattle.init_trace.specs.Report.{output_line}
use Rattle.init_trace.proofs.Adding.{adds_last, front_of_more}
use Rattle.init_trace.proofs.printer.add_entry.Goals as goal

pub returns-in_err-add_line-clause-added : goal.returns-in_err-add_line-clause-added
returns-in_err-add_line-clause-added g c =
    let p = err_from_is_err_and c.from_residual.result c.from_residual.ensures.1 in
    rw p.1 (front_of_more _ _ _ (line_text (head_fields c.args.input.now)) (lines_text (map output_line c.args.outputs.now)) c.in_err-add_line.ensures.added)

pub returns-clause-added : goal.returns-clause-added
returns-clause-added g c =
    adds_last _ _ _ _ _ _ _ (line_text (head_fields c.args.input.now)) (lines_text (map output_line c.args.outputs.now)) c.in_ok-add_line.ensures.added c.add_lines.ensures.added
