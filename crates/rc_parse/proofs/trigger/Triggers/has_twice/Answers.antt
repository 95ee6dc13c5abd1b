use Rattle.rc_parse.proofs.Fronts.{front_at}
use Rattle.rc_parse.proofs.Seen.{none_seen, one_seen}
use Rattle.rc_parse.proofs.trigger.Triggers.has_twice.Goals as goal

pub loop-test-init : goal.loop-test-init
loop-test-init c = none_seen _ _ _ c.new-seen.ensures.empty c.items-test-items.ensures

pub loop-test-preserved : goal.loop-test-preserved
loop-test-preserved c =
    one_seen c.loop-test.seen c.insert.new.self c.bytes.result c.test-item.result _ _ _ c.in_ok-insert.field-0
    (front_at c.items-test-items.result.now c.loop-test.test-index c.test-item.result c.loop-test-test.true c.test-item.is)
    c.bytes.ensures c.in_ok-insert.ensures.updates.0 c.in_ok-insert.ensures.added c.if-not-branch.false c.loop-test.invariant
