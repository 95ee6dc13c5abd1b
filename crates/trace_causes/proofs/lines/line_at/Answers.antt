use Rattle.std.proofs.Common.{◌-◌, sym, ap, ◌∙◌}
use Rattle.std.specs.List.{slice_get}
use Rattle.init_base.specs.Lines.{lines_of}
use Rattle.trace_causes.proofs.Numbered.{first_dropped, no_lines}
use Rattle.trace_causes.proofs.lines.line_at.Goals as goal

pub returns-then-is_empty : goal.returns-then-is_empty
returns-then-is_empty c =
    sym (
    first_dropped (lines_of c.args.text.now) (c.args.number - 1)
    ∙ ap (λ lines. slice_get lines 0) (sym c.lines_from-rest.ensures)
    ∙ no_lines c.lines_from-rest.result.now (sym c.is_empty.ensures ∙ c.if-is_empty.true)
    )

pub returns-else-is_empty : goal.returns-else-is_empty
returns-else-is_empty c =
    ap (λ lines. slice_get lines 0) (sym c.first_line.ensures.line ∙ c.lines_from-rest.ensures)
    ∙ sym (first_dropped (lines_of c.args.text.now) (c.args.number - 1))
