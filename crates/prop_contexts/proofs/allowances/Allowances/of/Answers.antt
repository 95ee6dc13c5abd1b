-- The lines in turn.
use Rattle.prop_contexts.proofs.Pairs.{all_left, one_line, none_left}
use Rattle.prop_contexts.proofs.allowances.Allowances.of.Goals as goal

pub loop-line-init : goal.loop-line-init
loop-line-init c = all_left c.new-pairs.result.keys c.args.lines c.new-pairs.ensures.empty

pub loop-line-preserved : goal.loop-line-preserved
loop-line-preserved c =
    one_line c.loop-line.pairs.keys c.add_line.new.pairs.keys c.items-line-items.result.now c.args.lines
    c.loop-line.line-index c.line-item.result c.items-line-items.ensures c.loop-line-test.true c.line-item.is c.in_ok-add_line.ensures c.loop-line.invariant

pub invariant_of-result : goal.invariant_of-result
invariant_of-result c =
    none_left c.loop-line.pairs.keys c.items-line-items.result.now c.args.lines c.loop-line.line-index c.items-line-items.ensures
    c.loop-line-test.false c.loop-line.invariant
