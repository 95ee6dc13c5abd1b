use Rattle.std.proofs.Common.{◌<◌, ◌≤◌, ◌∷◌, List, length, subst, sym, ap, ◌∙◌, arith}
use Rattle.init_machine.specs.Matches.{matches}
use Rattle.init_machine.specs.declared.event.Event.{Event}
use Rattle.action_queue.specs.Pending.{shown, running_of, mark_count}
use Rattle.action_queue.specs.Queue.{QueueView, value_in}
use Rattle.action_queue.proofs.Events.{keeps, is_less, stands, ends}
use Rattle.action_queue.proofs.Moves.{none_runs, some_runs}
use Rattle.action_queue.proofs.taking.take_events.Goals as goal

pub take_event-taken-requires-clause-idle : goal.take_event-taken-requires-clause-idle
take_event-taken-requires-clause-idle g c =
    none_runs c.args.triggers.now c.loop-alloc.pending.begun c.loop-alloc.pending.first c.loop-alloc.pending.command (grind (arith, c.loop-alloc-test.ensures.answer))

pub loop-alloc-preserved : goal.loop-alloc-preserved
loop-alloc-preserved g c =
    let actions = c.args.triggers.now in
    let i = c.loop-alloc.invariant in
    let done = c.in_ok-taken.ensures in
    let idle = none_runs actions c.loop-alloc.pending.begun c.loop-alloc.pending.first c.loop-alloc.pending.command (grind (arith, c.loop-alloc-test.ensures.answer)) in
    let lone : mark_count (c.in-Some.event ∷ c.pop.new.self) ≤ 1 = subst (λ (events : List Event). mark_count events ≤ 1) c.in-Some.ensures i.kept.lone in
    let kept =
    keeps g.met.O.Outputs.joins (matches (value_in (g.S.PropStore.meaning c.args.store.now))) (matches (value_in (g.S.PropStore.meaning c.loop-alloc.store)))
    (shown actions c.args.pending.now) (shown actions c.loop-alloc.pending) (shown actions c.take_event-taken.new.pending) c.in-Some.event c.pop.new.self
    c.args.outputs.now c.loop-alloc.outputs c.take_event-taken.new.outputs
    (ap (λ props. matches (value_in props)) i.same) idle c.in-Some.ensures lone done.queue done.lines i.queue i.lines in
    record {
      kept = done.kept;
      queue = kept.0;
      lines = kept.1;
      same = done.same ∙ i.same;
      told = done.told ∙ i.told;
      spare = done.spare ∙ i.spare;
      beside = g.met.S.PropStore.transitive _ _ _ i.beside done.beside;
    }

pub loop-alloc-smaller : goal.loop-alloc-smaller
loop-alloc-smaller g c =
    let events = ap (λ (q : QueueView). q.events) c.in_ok-taken.ensures.queue in
    let lone : mark_count (c.in-Some.event ∷ c.pop.new.self) ≤ 1 = subst (λ (events : List Event). mark_count events ≤ 1) c.in-Some.ensures c.loop-alloc.invariant.kept.lone in
    let less = is_less (matches (value_in (g.S.PropStore.meaning c.loop-alloc.store))) c.args.triggers.now c.in-Some.event c.pop.new.self lone in
    rw (events, c.in-Some.ensures) less

pub returns-in_default-clause-queue : goal.returns-in_default-clause-queue
returns-in_default-clause-queue g c =
    let actions = c.args.triggers.now in
    let p = c.loop-alloc.pending in
    let idle = none_runs actions p.begun p.first p.command (grind (arith, c.loop-alloc-test.ensures.answer)) in
    let all = ends (matches (value_in (g.S.PropStore.meaning c.args.store.now))) (shown actions p) idle c.in_default.ensures.0 in
    ap (λ (events : List Event). let q : QueueView = record { actions = actions; events = events; running = running_of actions p; changes = p.changes } in q)
    (c.in_default.ensures.1 ∙ sym c.in_default.ensures.0)
    ∙ sym all.0 ∙ c.loop-alloc.invariant.queue

pub returns-in_default-clause-lines : goal.returns-in_default-clause-lines
returns-in_default-clause-lines g c =
    let actions = c.args.triggers.now in
    let p = c.loop-alloc.pending in
    let idle = none_runs actions p.begun p.first p.command (grind (arith, c.loop-alloc-test.ensures.answer)) in
    let all = ends (matches (value_in (g.S.PropStore.meaning c.args.store.now))) (shown actions p) idle c.in_default.ensures.0 in
    c.loop-alloc.invariant.lines c.loop-alloc.outputs
    (subst (g.O.Outputs.Adds c.loop-alloc.outputs c.loop-alloc.outputs) (sym all.1) (g.met.O.Outputs.joins.none c.loop-alloc.outputs))

pub returns-clause-queue : goal.returns-clause-queue
returns-clause-queue g c =
    let actions = c.args.triggers.now in
    let p = c.loop-alloc.pending in
    let runs : p.first < length p.begun = grind (arith, c.loop-alloc-test.ensures.answer) in
    let all = stands (matches (value_in (g.S.PropStore.meaning c.args.store.now))) (shown actions p) _ _ (some_runs actions p.begun p.first p.command runs) in
    sym all.0 ∙ c.loop-alloc.invariant.queue

pub returns-clause-lines : goal.returns-clause-lines
returns-clause-lines g c =
    let actions = c.args.triggers.now in
    let p = c.loop-alloc.pending in
    let runs : p.first < length p.begun = grind (arith, c.loop-alloc-test.ensures.answer) in
    let all = stands (matches (value_in (g.S.PropStore.meaning c.args.store.now))) (shown actions p) _ _ (some_runs actions p.begun p.first p.command runs) in
    c.loop-alloc.invariant.lines c.loop-alloc.outputs
    (subst (g.O.Outputs.Adds c.loop-alloc.outputs c.loop-alloc.outputs) (sym all.1) (g.met.O.Outputs.joins.none c.loop-alloc.outputs))
