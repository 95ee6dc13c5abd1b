use Rattle.std.proofs.Common.{◌≡◌, ◌+◌, length}
use Rattle.action_queue.specs.Pending.{IsKept, shown, mark_count}
use Rattle.action_queue.specs.Queue.{taken_in, with_taken}
use Rattle.action_queue.proofs.taking.take_events.Given as goal

abbrev pub invariant-loop-alloc : goal.invariant-loop-alloc
invariant-loop-alloc g l =
    let props = g.S.PropStore.meaning l.initial.store in
    let now = shown l.triggers l.pending in
    let first = shown l.triggers l.initial.pending in
    record {
      kept : IsKept l.triggers l.pending;
      queue : with_taken now (taken_in props now) ≡ with_taken first (taken_in props first);
      lines : (o : _) → g.O.Outputs.Adds l.outputs o (taken_in props now).lines → g.O.Outputs.Adds l.initial.outputs o (taken_in props first).lines;
      same : g.S.PropStore.meaning l.store ≡ props;
      told : g.S.PropStore.told l.store ≡ g.S.PropStore.told l.initial.store;
      spare : g.S.PropStore.spare l.store ≡ g.S.PropStore.spare l.initial.store;
      beside : g.S.PropStore.Beside l.initial.store l.store;
    }

abbrev pub decreases-loop-alloc : goal.decreases-loop-alloc
decreases-loop-alloc g l = length l.pending.events + mark_count l.pending.events
