use Rattle.std.proofs.Common.{refl, arith}
use Rattle.std.proofs.lemmas.Result.{err_from_is_err_and}
use Rattle.rc_parse.proofs.Criticals.{fault_of_argument, fault_of_part, on_to_next}
use Rattle.rc_parse.proofs.critical.critical.Goals as goal

pub returns-in_err-part : goal.returns-in_err-part
returns-in_err-part c =
    let p = err_from_is_err_and c.from_residual.result c.from_residual.ensures.1 in
    rw (p.1, p.2)
    (fault_of_argument c.loop-arg.parts c.args.args.now c.loop-arg.arg-index c.arg-item.result c.arg-item.result (omega arith)
    c.arg-item.is refl c.loop-arg.invariant c.in_err-part.field-0.0 c.in_err-part.ensures)

pub returns-in_err-parts : goal.returns-in_err-parts
returns-in_err-parts c =
    let p = err_from_is_err_and c.from_residual-in_err-parts.result c.from_residual-in_err-parts.ensures.1 in
    rw (p.1, p.2)
    (fault_of_part c.loop-arg.parts c.args.args.now c.loop-arg.arg-index c.arg-item.result c.arg-item.result (omega arith)
    c.arg-item.is refl c.loop-arg.invariant c.in_ok-part.field-0 c.in_ok-part.ensures
    c.in_err-parts.field-0.0 c.in_err-parts.ensures)

pub loop-arg-preserved : goal.loop-arg-preserved
loop-arg-preserved c =
    on_to_next c.loop-arg.parts c.args.args.now c.loop-arg.arg-index c.arg-item.result c.arg-item.result (omega arith)
    c.arg-item.is refl c.loop-arg.invariant c.in_ok-part.field-0 c.in_ok-part.ensures
    c.in_ok-parts.parts c.in_ok-parts.ensures
