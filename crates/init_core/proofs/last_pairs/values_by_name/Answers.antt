use Rattle.std.proofs.Common.{◌∙◌}
use Rattle.init_core.proofs.ByName.{one_more}
use Rattle.init_core.proofs.last_pairs.values_by_name.Goals as goal

pub loop-pair-preserved : goal.loop-pair-preserved
loop-pair-preserved c =
    one_more c.loop-pair.values.entries c.insert.new.self.entries c.in_ok-name.name c.in_ok-share.field-0 c.items-pair-items.result.now c.args.pairs.now _ c.loop-pair.pair-index c.pair-item.result
    c.items-pair-items.ensures c.loop-pair-test.true c.pair-item.is (c.in_ok-name.ensures.items ∙ c.bytes.ensures) c.in_ok-share.ensures c.in_ok-insert.ensures.entries c.loop-pair.invariant
