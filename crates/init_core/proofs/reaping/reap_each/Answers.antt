use Rattle.std.proofs.Common.{sym, subst}
use Rattle.init_machine.specs.Changes.{each}
use Rattle.machine_parts.specs.Parts.{Does, rules_of, state_of}
use Rattle.init_core.specs.Reaped.{reap_one}
use Rattle.machine_parts.proofs.Doing.{does_nothing}
use Rattle.init_core.proofs.Fronts.{front_is, none_left_of}
use Rattle.init_core.proofs.Left.{left_on, left_over}
use Rattle.init_core.proofs.reaping.reap_each.Goals as goal

pub loop-process-preserved : goal.loop-process-preserved
loop-process-preserved g c =
    let i = c.loop-process.invariant in
    let left = front_is c.items-process-items.result.now c.args.ended.now c.loop-process.process-index c.process-item.result c.items-process-items.ensures c.loop-process-test.true c.process-item.is in
    record {
      left = left_on g.met.O.Outputs.joins reap_one c.args.ended.now _ _ _ _ c.process-item.result _ left i.left c.in_ok-reap.ensures.done (sym c.if-is_some.ensures);
      beside = g.met.S.PropStore.transitive _ _ _ i.beside c.in_ok-reap.ensures.beside;
    }

pub returns-then-is_some-clause-done : goal.returns-then-is_some-clause-done
returns-then-is_some-clause-done g c =
    let left = front_is c.items-process-items.result.now c.args.ended.now c.loop-process.process-index c.process-item.result c.items-process-items.ensures c.loop-process-test.true c.process-item.is in
    left_over g.met.O.Outputs.joins reap_one c.args.ended.now _ _ _ _ c.process-item.result _ left c.loop-process.invariant.left c.in_ok-reap.ensures.done (sym c.if-is_some.ensures)

pub returns-clause-done : goal.returns-clause-done
returns-clause-done g c =
    let now = c.loop-process.parts in
    let none = none_left_of c.items-process-items.result.now c.args.ended.now c.loop-process.process-index c.items-process-items.ensures c.loop-process-test.false in
    c.loop-process.invariant.left now
    (subst (λ rest. Does g.S.PropStore.meaning g.S.PropStore.told g.O.Outputs.Adds now now (each (reap_one (rules_of now)) rest (state_of g.S.PropStore.meaning now))) (sym none) (does_nothing g.met.O.Outputs.joins now))
