use Rattle.std.proofs.Common.{◌≡◌, ◌++◌, drop, filter, true}
use Rattle.init_machine.specs.Matches.{matches}
use Rattle.action_queue.specs.Pending.{are_places, passes_at}
use Rattle.action_queue.specs.Queue.{value_in}
use Rattle.action_queue.proofs.taking.begin.Given as goal

abbrev pub invariant-loop-at : goal.invariant-loop-at
invariant-loop-at g l =
    let triggered = passes_at (matches (value_in (g.S.PropStore.meaning l.initial.store)) l.event) l.triggers in
    record {
      left : are_places l.triggers (drop l.at-index l.candidates) ≡ true;
      places : are_places l.triggers l.begun ≡ true;
      begun : l.begun ++ filter triggered (drop l.at-index l.candidates) ≡ l.initial.begun ++ filter triggered l.candidates;
      same : g.S.PropStore.meaning l.store ≡ g.S.PropStore.meaning l.initial.store;
      told : g.S.PropStore.told l.store ≡ g.S.PropStore.told l.initial.store;
      spare : g.S.PropStore.spare l.store ≡ g.S.PropStore.spare l.initial.store;
      beside : g.S.PropStore.Beside l.initial.store l.store;
    }
