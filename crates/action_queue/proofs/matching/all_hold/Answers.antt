use Rattle.std.proofs.Common.{◌∙◌}
use Rattle.std.specs.Option.{option_copied}
use Rattle.action_queue.specs.Queue.{value_in, has_legal_name}
use Rattle.action_queue.specs.internal.Tests.{holds_after}
use Rattle.action_queue.proofs.Fronts.{front_passes, passes_front}
use Rattle.action_queue.proofs.matching.all_hold.Goals as goal

pub holds-requires : goal.holds-requires
holds-requires g c =
    (front_passes has_legal_name c.items-test-items.result.now c.args.props.now c.loop-test.test-index c.test-item.result
    c.items-test-items.ensures c.loop-test-test.true c.test-item.is c.loop-test.invariant.legal).0

pub loop-test-preserved : goal.loop-test-preserved
loop-test-preserved g c =
    let i = c.loop-test.invariant in
    let held = c.if-not-holds.ensures in
    record {
      answer =
          passes_front (λ m. holds_after (value_in m) (option_copied c.args.changed)) (g.S.PropStore.meaning c.args.store.now) (g.S.PropStore.meaning c.loop-test.store)
          c.items-test-items.result.now c.args.props.now c.loop-test.test-index c.test-item.result _
          c.items-test-items.ensures c.loop-test-test.true c.test-item.is i.same held.answer i.answer;
      legal =
          (front_passes has_legal_name c.items-test-items.result.now c.args.props.now c.loop-test.test-index c.test-item.result
          c.items-test-items.ensures c.loop-test-test.true c.test-item.is i.legal).1;
      same = held.same ∙ i.same;
      told = held.told ∙ i.told;
      spare = held.spare ∙ i.spare;
      beside = g.met.S.PropStore.transitive _ _ _ i.beside held.beside;
    }
