use Rattle.std.proofs.Common.{◌≡◌, ℕ, List, ◌++◌, drop}
use Rattle.action_queue.specs.ByName.{places_of}
use Rattle.action_queue.specs.Index.{has_named, has_tested, is_without_event, IsBehind}
use Rattle.action_queue.specs.Pending.{places_from}
use Rattle.action_queue.proofs.index.make_index.Given as goal

abbrev pub invariant-loop-at : goal.invariant-loop-at
invariant-loop-at l = record {
  by_event : (name : List ℕ) → places_of l.index.by_event name ++ places_from l.at (has_named name) (drop l.at l.actions) ≡ places_from 0 (has_named name) l.actions;
  by_property : (name : List ℕ) → places_of l.index.by_property name ++ places_from l.at (has_tested name) (drop l.at l.actions) ≡ places_from 0 (has_tested name) l.actions;
  without_event : l.index.without_event.items ++ places_from l.at is_without_event (drop l.at l.actions) ≡ places_from 0 is_without_event l.actions;
  behind : IsBehind l.at l.index.by_property;
}
