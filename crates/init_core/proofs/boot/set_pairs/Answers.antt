use Rattle.std.proofs.Common.{sym, subst}
use Rattle.init_machine.specs.Step.{set_pairs}
use Rattle.machine_parts.specs.Parts.{Does, rules_of, state_of}
use Rattle.machine_parts.proofs.Doing.{does_nothing}
use Rattle.init_core.proofs.Fronts.{front_is, none_left_of}
use Rattle.init_core.proofs.Left.{left_pairs}
use Rattle.init_core.proofs.boot.set_pairs.Goals as goal

pub loop-pair-preserved : goal.loop-pair-preserved
loop-pair-preserved g c =
    let i = c.loop-pair.invariant in
    let left = front_is c.items-pair-items.result.now c.args.pairs.now c.loop-pair.pair-index c.pair-item.result c.items-pair-items.ensures c.loop-pair-test.true c.pair-item.is in
    record {
      left = left_pairs g.met.O.Outputs.joins c.args.pairs.now _ _ _ _ c.pair-item.result _ left i.left c.in_ok-set_pair.ensures.done;
      beside = g.met.S.PropStore.transitive _ _ _ i.beside c.in_ok-set_pair.ensures.beside;
    }

pub returns-clause-done : goal.returns-clause-done
returns-clause-done g c =
    let now = c.loop-pair.parts in
    let none = none_left_of c.items-pair-items.result.now c.args.pairs.now c.loop-pair.pair-index c.items-pair-items.ensures c.loop-pair-test.false in
    c.loop-pair.invariant.left now
    (subst (λ rest. Does g.S.PropStore.meaning g.S.PropStore.told g.O.Outputs.Adds now now (set_pairs (rules_of now) rest (state_of g.S.PropStore.meaning now))) (sym none) (does_nothing g.met.O.Outputs.joins now))
