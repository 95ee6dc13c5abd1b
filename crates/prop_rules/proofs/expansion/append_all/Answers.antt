use Rattle.std.proofs.Common.{◌+◌, ◌∙◌, Ok, drop, slice_index, rules}
use Rattle.init_machine.specs.Expand.{joined, values_of, pieces_of}
use Rattle.init_machine.specs.Props.{value_in}
use Rattle.prop_rules.proofs.Expansions.{left_after, fails_at, first_some}
use Rattle.prop_rules.proofs.expansion.append_all.Goals as goal

pub loop-place-preserved : goal.loop-place-preserved
loop-place-preserved g c =
    let i = c.loop-place.invariant in
    let e = c.in-Ok.ensures in
    record {
      left =
          left_after (g.S.PropStore.meaning c.loop-place.store) (g.S.PropStore.meaning c.append_piece.new.store) c.args.text.now c.loop-place.place c.in-Ok.written
          c.loop-place.out.items c.append_piece.new.out.items
          (joined (Ok c.args.out.now.items) (values_of (value_in (g.S.PropStore.meaning c.args.store.now)) (pieces_of c.args.text.now)))
          e.same c.loop-place-test.true e.some e.written e.value i.left;
      within = e.within;
      same = e.same ∙ i.same;
      told = e.told ∙ i.told;
      spare = e.spare ∙ i.spare;
      beside = search rules;
    }

pub returns-in-Err-clause-value : goal.returns-in-Err-clause-value
returns-in-Err-clause-value g c =
    fails_at c.in-Err.why (g.S.PropStore.meaning c.loop-place.store) c.args.text.now c.loop-place.place c.loop-place.out.items
    (joined (Ok c.args.out.now.items) (values_of (value_in (g.S.PropStore.meaning c.args.store.now)) (pieces_of c.args.text.now)))
    c.loop-place-test.true (first_some (slice_index c.args.text.now c.loop-place.place) (drop (c.loop-place.place + 1) c.args.text.now))
    c.in-Err.ensures.value c.loop-place.invariant.left
