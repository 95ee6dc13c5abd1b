use Rattle.std.proofs.Common.{◌≡◌, IsTrue, drop}
use Rattle.std.specs.List.{list_all}
use Rattle.std.specs.Option.{option_copied}
use Rattle.action_queue.specs.Queue.{value_in, has_legal_name}
use Rattle.action_queue.specs.internal.Tests.{holds_after}
use Rattle.action_queue.proofs.matching.all_hold.Given as goal

abbrev pub invariant-loop-test : goal.invariant-loop-test
invariant-loop-test g l = record {
  answer : list_all (holds_after (value_in (g.S.PropStore.meaning l.initial.store)) (option_copied l.changed)) (drop l.test-index l.props) ≡ list_all (holds_after (value_in (g.S.PropStore.meaning l.initial.store)) (option_copied l.changed)) l.props;
  legal : IsTrue (list_all has_legal_name (drop l.test-index l.props));
  same : g.S.PropStore.meaning l.store ≡ g.S.PropStore.meaning l.initial.store;
  told : g.S.PropStore.told l.store ≡ g.S.PropStore.told l.initial.store;
  spare : g.S.PropStore.spare l.store ≡ g.S.PropStore.spare l.initial.store;
  beside : g.S.PropStore.Beside l.initial.store l.store;
}
