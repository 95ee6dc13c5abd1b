use Rattle.std.proofs.Common.{ap, sym, subst, ◌∙◌}
use Rattle.std.specs.List.{slice_get}
use Rattle.init_machine.specs.Effect.{effect}
use Rattle.init_machine.specs.State.{Rules}
use Rattle.init_machine.specs.Changes.{each}
use Rattle.machine_parts.specs.Parts.{Does, rules_of, state_of}
use Rattle.init_core.specs.Reaped.{onrestart_of}
use Rattle.machine_parts.proofs.Doing.{does_nothing}
use Rattle.init_core.proofs.Fronts.{front, none_left}
use Rattle.init_core.proofs.Left.{left_on, left_over}
use Rattle.init_core.proofs.restarting.run_onrestart.Goals as goal

pub loop-place-preserved : goal.loop-place-preserved
loop-place-preserved g c =
    let i = c.loop-place.invariant in
    let commands = onrestart_of (slice_get c.args.parts.now.services.defs c.args.at) in
    let f = front commands c.loop-place.place c.onrestart_count-place-end.result c.onrestart_count-place-end.ensures c.loop-place-test.true in
    let found = ap (λ (rules : Rules). slice_get (onrestart_of (slice_get rules.services c.args.at)) c.loop-place.place) i.rules ∙ f.is in
    let done = c.in_ok-run_at.ensures.done f.item found in
    record {
      left = left_on g.met.O.Outputs.joins effect commands _ _ _ _ f.item _ f.left i.left done (sym c.if-is_some.ensures);
      rules = done.rules ∙ i.rules;
      beside = g.met.S.PropStore.transitive _ _ _ i.beside c.in_ok-run_at.ensures.beside;
    }

pub returns-then-is_some-clause-done : goal.returns-then-is_some-clause-done
returns-then-is_some-clause-done g c =
    let i = c.loop-place.invariant in
    let commands = onrestart_of (slice_get c.args.parts.now.services.defs c.args.at) in
    let f = front commands c.loop-place.place c.onrestart_count-place-end.result c.onrestart_count-place-end.ensures c.loop-place-test.true in
    let found = ap (λ (rules : Rules). slice_get (onrestart_of (slice_get rules.services c.args.at)) c.loop-place.place) i.rules ∙ f.is in
    left_over g.met.O.Outputs.joins effect commands _ _ _ _ f.item _ f.left i.left (c.in_ok-run_at.ensures.done f.item found) (sym c.if-is_some.ensures)

pub returns-clause-done : goal.returns-clause-done
returns-clause-done g c =
    let commands = onrestart_of (slice_get c.args.parts.now.services.defs c.args.at) in
    let now = c.loop-place.parts in
    let none = none_left commands c.loop-place.place c.onrestart_count-place-end.result c.onrestart_count-place-end.ensures c.loop-place-test.false in
    c.loop-place.invariant.left now
    (subst (λ rest. Does g.S.PropStore.meaning g.S.PropStore.told g.O.Outputs.Adds now now (each (effect (rules_of now)) rest (state_of g.S.PropStore.meaning now))) (sym none) (does_nothing g.met.O.Outputs.joins now))
