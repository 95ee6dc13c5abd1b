use Rattle.std.proofs.Common.{List, ◌≤◌, length, subst}
use Rattle.init_machine.specs.declared.action.Action.{Action}
use Rattle.action_queue.specs.ByName.{places_of}
use Rattle.action_queue.specs.Index.{has_named, has_tested, is_without_event}
use Rattle.action_queue.proofs.Indexed.{one_action, all_actions, still_below}
use Rattle.action_queue.proofs.index.make_index.Goals as goal

pub loop-at-preserved : goal.loop-at-preserved
loop-at-preserved c =
    let i = c.loop-at.invariant in
    let ys = c.items-action-items.result.now in
    let actions = c.args.actions.now in
    let at = c.loop-at.at in
    let a = c.action-item.result in
    let same = c.items-action-items.ensures in
    let done = c.in_ok-add_action.ensures in
    record {
      by_event = λ name. one_action (has_named name) ys actions at a (places_of c.loop-at.index.by_event name) (places_of c.add_action.new.index.by_event name) _ same c.loop-at-test.true c.action-item.is (done.by_event name) (i.by_event name);
      by_property = λ name. one_action (has_tested name) ys actions at a (places_of c.loop-at.index.by_property name) (places_of c.add_action.new.index.by_property name) _ same c.loop-at-test.true c.action-item.is (done.by_property name) (i.by_property name);
      without_event = one_action is_without_event ys actions at a c.loop-at.index.without_event.items c.add_action.new.index.without_event.items _ same c.loop-at-test.true c.action-item.is done.without_event i.without_event;
      behind = λ name. still_below at (places_of c.loop-at.index.by_property name) (places_of c.add_action.new.index.by_property name) (has_tested name a) (done.by_property name) (i.behind name);
    }

pub returns : goal.returns
returns c =
    let i = c.loop-at.invariant in
    let actions = c.args.actions.now in
    let past : length actions ≤ c.loop-at.at = subst (λ (ts : List Action). length ts ≤ c.loop-at.at) c.items-action-items.ensures c.loop-at-test.false in
    record {
      by_event = λ name. all_actions (has_named name) actions c.loop-at.at (places_of c.loop-at.index.by_event name) _ past (i.by_event name);
      by_property = λ name. all_actions (has_tested name) actions c.loop-at.at (places_of c.loop-at.index.by_property name) _ past (i.by_property name);
      without_event = all_actions is_without_event actions c.loop-at.at c.loop-at.index.without_event.items _ past i.without_event;
    }
