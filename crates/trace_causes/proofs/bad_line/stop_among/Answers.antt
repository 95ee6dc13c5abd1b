use Rattle.std.proofs.Common.{ap, sym, ◌∙◌}
use Rattle.std.specs.Prelude.{is_some}
use Rattle.trace_causes.proofs.bad_line.stop_among.Goals as goal

pub returns-in-Ok-Rest : goal.returns-in-Ok-Rest
returns-in-Ok-Rest c =
    let next = rw c.in-Ok-Rest.field-0-is at c.in-Ok-Rest.ensures.next in
    sym (c.loop-entry.invariant ∙ ap is_some next.0)

pub returns-in-Err-Bad : goal.returns-in-Err-Bad
returns-in-Err-Bad c =
    let next = rw c.in-Err-Bad.field-0-is at c.in-Err-Bad.ensures.next in
    sym (c.loop-entry.invariant ∙ ap is_some next)
