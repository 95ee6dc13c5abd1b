use Rattle.action_queue.specs.ByName.{places_of}
use Rattle.action_queue.proofs.Indexed.{one_test}
use Rattle.action_queue.proofs.index.add_tests.Goals as goal

pub loop-test-preserved : goal.loop-test-preserved
loop-test-preserved c =
    one_test (places_of c.args.places.now) (places_of c.loop-test.places) (places_of c.add_test.new.places) c.args.at
    c.items-test-items.result.now c.args.props.now c.loop-test.test-index c.test-item.result
    c.items-test-items.ensures c.loop-test-test.true c.test-item.is c.requires c.loop-test.invariant c.in_ok-add_test.ensures
