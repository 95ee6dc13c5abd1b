use Rattle.std.proofs.Common.{◌++◌, filter, refl, ap, ◌∙◌, arith}
use Rattle.init_machine.specs.Matches.{matches}
use Rattle.action_queue.specs.Index.{may_trigger}
use Rattle.action_queue.specs.Pending.{are_places, passes_at}
use Rattle.action_queue.specs.Queue.{value_in}
use Rattle.action_queue.proofs.Indexed.{may_where_matched}
use Rattle.action_queue.proofs.Places.{are_places-places, filter-places, stands_whole, begun-end}
use Rattle.action_queue.proofs.taking.begin.Goals as goal

pub loop-at-init : goal.loop-at-init
loop-at-init g c =
    record {
      left =
          ap (are_places c.args.triggers.now) c.candidates-candidates.ensures
          ∙ are_places-places (may_trigger c.args.event.now) c.args.triggers.now 0 c.args.triggers.now (omega arith);
      places = c.requires;
      begun = refl;
      same = refl;
      told = refl;
      spare = refl;
      beside = g.met.S.PropStore.reflexive _;
    }

pub returns-clause-begun : goal.returns-clause-begun
returns-clause-begun g c =
    let all = c.args.triggers.now in
    let event = c.args.event.now in
    let triggered = matches (value_in (g.S.PropStore.meaning c.args.store.now)) event in
    begun-end (passes_at triggered all) c.candidates-candidates.result.now c.loop-at.begun _ c.loop-at.at-index c.loop-at-test.false c.loop-at.invariant.begun
    ∙ ap (λ places. c.args.begun.now ++ filter (passes_at triggered all) places) c.candidates-candidates.ensures
    ∙ ap (λ places. c.args.begun.now ++ places) (filter-places triggered (may_trigger event) (may_where_matched (value_in (g.S.PropStore.meaning c.args.store.now)) event) all 0 all (stands_whole all))
