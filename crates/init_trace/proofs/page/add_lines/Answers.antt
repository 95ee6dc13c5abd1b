use Rattle.std.proofs.Common.{map, refl, ◌∙◌, subst}
use Rattle.std.proofs.lemmas.Result.{err_from_is_err_and}
use Rattle.init_trace.specs.Line.{line_text, lines_text}
use Rattle.init_trace.proofs.Adding.{Left, left_at, left_front, left_less}
use Rattle.init_trace.proofs.page.add_lines.Goals as goal

pub returns-in_err-add_line-clause-added : goal.returns-in_err-add_line-clause-added
returns-in_err-add_line-clause-added g c =
    let p = err_from_is_err_and c.from_residual.result c.from_residual.ensures.1 in
    let is = left_at (λ xs. lines_text (map g.L.Line.fields xs)) (λ x. line_text (g.L.Line.fields x)) (λ x rest. refl) c.args.items.now c.loop-item.item-index c.item-item.result c.loop-item-test.true c.item-item.is in
    rw p.1 (left_front _ _ _ _ _ _ _ _ (subst (Left _ _ _ _ _) is c.loop-item.invariant.added) c.in_err-add_line.ensures.added)

pub loop-item-preserved : goal.loop-item-preserved
loop-item-preserved g c =
    let is = left_at (λ xs. lines_text (map g.L.Line.fields xs)) (λ x. line_text (g.L.Line.fields x)) (λ x rest. refl) c.args.items.now c.loop-item.item-index c.item-item.result c.loop-item-test.true c.item-item.is in
    record {
      added = left_less _ _ _ _ _ _ _ _ _ (subst (Left _ _ _ _ _) is c.loop-item.invariant.added) c.in_ok-add_line.ensures.added;
      faults = c.in_ok-add_line.ensures.cause ∙ c.loop-item.invariant.faults;
    }
