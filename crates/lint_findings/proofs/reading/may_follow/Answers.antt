use Rattle.std.proofs.Common.{◌-◌, length, slice_get, ap, ◌∙◌}
use Rattle.init_machine.specs.Pairs.{is_before}
use Rattle.lint_findings.proofs.Order.{follows}
use Rattle.lint_findings.proofs.reading.may_follow.Goals as goal

pub returns-in-Some : goal.returns-in-Some
returns-in-Some c =
    follows c.args.rows.now c.in-Some.last.now c.args.line.now c.is_before.result
    (c.in-Some.ensures.value ∙ ap (λ rows. slice_get rows (length rows - 1)) c.items.ensures)
    (c.is_before.ensures ∙ ap (λ last. is_before c.args.line.now last) c.bytes.ensures)
