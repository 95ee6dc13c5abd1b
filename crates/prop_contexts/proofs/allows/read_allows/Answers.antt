use Rattle.std.proofs.Common.{eqb-true, sym, ◌∙◌}
use Rattle.std.proofs.lemmas.Result.{err_from_is_err_and}
use Rattle.prop_contexts.proofs.AllowReadings.{pairs_read_more, pairs_refused, pairs_read_all}
use Rattle.prop_contexts.proofs.allows.read_allows.Goals as goal

pub returns-in_err-take_line-clause-refused : goal.returns-in_err-take_line-clause-refused
returns-in_err-take_line-clause-refused c =
    let p = err_from_is_err_and c.from_residual.result c.from_residual.ensures.1 in
    rw (p.1, p.2)
    (pairs_refused c.args.text.now c.loop-rest.number c.loop-rest.allows c.loop-rest.rest.now c.first_line.result.0.now c.first_line.result.1.now _
    c.loop-rest.invariant c.first_line.ensures.line c.in_err-take_line.ensures.refused)

pub loop-rest-preserved : goal.loop-rest-preserved
loop-rest-preserved c =
    pairs_read_more c.args.text.now c.loop-rest.number c.loop-rest.allows c.take_line.new.allows c.loop-rest.rest.now c.first_line.result.0.now c.first_line.result.1.now
    c.loop-rest.invariant c.first_line.ensures.line c.first_line.ensures.shorter c.in_ok-take_line.ensures.taken

pub returns-clause-read : goal.returns-clause-read
returns-clause-read c =
    pairs_read_all c.args.text.now c.loop-rest.number c.loop-rest.allows c.loop-rest.rest.now c.loop-rest.invariant
    (eqb-true _ _ (sym c.is_empty.ensures ∙ c.loop-rest-test.false))
