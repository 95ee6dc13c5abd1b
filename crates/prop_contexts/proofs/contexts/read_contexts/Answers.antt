use Rattle.std.proofs.Common.{eqb-true, sym, ◌∙◌}
use Rattle.std.proofs.lemmas.Result.{err_from_is_err_and}
use Rattle.prop_contexts.specs.Given.{given}
use Rattle.prop_contexts.proofs.Readings.{read_more, read_refused, read_all}
use Rattle.prop_contexts.proofs.contexts.read_contexts.Goals as goal

pub returns-in_err-take-clause-refused : goal.returns-in_err-take-clause-refused
returns-in_err-take-clause-refused c =
    let p = err_from_is_err_and c.from_residual.result c.from_residual.ensures.1 in
    rw (p.1, p.2)
    (read_refused c.args.text.now c.loop-rest.contexts.lines (given c.loop-rest.contexts) c.loop-rest.rest.now c.first_line.result.0.now c.first_line.result.1.now _
    c.loop-rest.invariant c.first_line.ensures.line c.in_err-take.ensures.refused)

pub loop-rest-preserved : goal.loop-rest-preserved
loop-rest-preserved c =
    rw c.in_ok-take.ensures.lines
    (read_more c.args.text.now c.loop-rest.contexts.lines (given c.loop-rest.contexts) (given c.take.new.self) c.loop-rest.rest.now c.first_line.result.0.now c.first_line.result.1.now
    c.loop-rest.invariant c.first_line.ensures.line c.first_line.ensures.shorter c.in_ok-take.ensures.taken)

pub returns-clause-read : goal.returns-clause-read
returns-clause-read c =
    read_all c.args.text.now c.loop-rest.contexts c.loop-rest.rest.now c.loop-rest.invariant
    (eqb-true _ _ (sym c.is_empty.ensures ∙ c.loop-rest-test.false))
