use Rattle.std.proofs.Common.{◌∙◌, subst}
use Rattle.std.proofs.lemmas.Result.{err_from_is_err_and}
use Rattle.init_trace.proofs.Adding.{Left, left_front, left_less}
use Rattle.init_trace.proofs.Texts.{parts_at}
use Rattle.init_trace.proofs.printer.add_parts.Goals as goal

pub returns-in_err-add_part-clause-added : goal.returns-in_err-add_part-clause-added
returns-in_err-add_part-clause-added g c =
    let p = err_from_is_err_and c.from_residual.result c.from_residual.ensures.1 in
    let is = parts_at c.args.parts.now c.loop-index.index c.index-parts-index.result c.loop-index-test.true c.index-parts-index.is in
    rw p.1 (left_front _ _ _ _ _ _ _ _ (subst (Left _ _ _ _ _) is c.loop-index.invariant.added) c.in_err-add_part.ensures.added)

pub loop-index-preserved : goal.loop-index-preserved
loop-index-preserved g c =
    let is = parts_at c.args.parts.now c.loop-index.index c.index-parts-index.result c.loop-index-test.true c.index-parts-index.is in
    record {
      added = left_less _ _ _ _ _ _ _ _ _ (subst (Left _ _ _ _ _) is c.loop-index.invariant.added) c.in_ok-add_part.ensures.added;
      faults = c.in_ok-add_part.ensures.cause ∙ c.loop-index.invariant.faults;
    }
