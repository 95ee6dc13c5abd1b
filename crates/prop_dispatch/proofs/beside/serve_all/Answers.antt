use Rattle.std.proofs.Common.{◌≡◌, ◌∙◌, List, ap, sym, subst, length}
use Rattle.crossbeam_queue.specs.Passes.{view}
use Rattle.prop_dispatch.specs.internal.Passing.{EachPushed, lists_of}
use Rattle.prop_dispatch.specs.internal.Serving.{Served}
use Rattle.prop_dispatch.specs.declared.protocol.Item.{Item}
use Rattle.prop_dispatch.specs.declared.protocol.View.{View}
use Rattle.prop_dispatch.proofs.Passes.{all_may, as_many_seated, each_from, given_ok, puts_all, settled}
use Rattle.prop_dispatch.proofs.beside.serve_all.Goals as goal

pub push_and_work-pass-requires-clause-serves : goal.push_and_work-pass-requires-clause-serves
push_and_work-pass-requires-clause-serves g c κs within =
    let s = c.requires.serves in (
      s.0,
      s.1,
      subst (λ (l : List Item). Served g.N.AreaName.area s.0 s.1 l c.args.worker.failed c.args.worker.service c.args.worker.seats.items)
          (sym (ap (λ (v : View). v.got) c.requires.begun)) s.2,
    )

pub push_and_work-pass-requires-clause-senders : goal.push_and_work-pass-requires-clause-senders
push_and_work-pass-requires-clause-senders g c κs within =
    all_may c.args.line.now 0 c.requires.seated.0 c.args.senders.items c.requires.seated.1

pub take_in_all-requires-clause-each : goal.take_in_all-requires-clause-each
take_in_all-requires-clause-each g c =
    let came = given_ok (λ passes. EachPushed c.args.line.now c.args.senders.items passes.items) _ c.in-Ok.passes c.in-Ok.is
    c.push_and_work-pass.ensures.pushed in
    each_from c.args.line.now 0 c.requires.seated.0 c.args.senders.items c.in-Ok.passes.items c.requires.seated.1 came

pub drain-requires-clause-serves : goal.drain-requires-clause-serves
drain-requires-clause-serves g c =
    let s = c.requires.serves in
    let worked = c.push_and_work-pass.result.0.1 in
    let begun = subst (λ (l : List Item). Served g.N.AreaName.area s.0 s.1 l c.args.worker.failed c.args.worker.service c.args.worker.seats.items)
    (sym (ap (λ (v : View). v.got) c.requires.begun)) s.2 in (
      s.0,
      s.1,
      subst (λ (l : List Item). Served g.N.AreaName.area s.0 s.1 l worked.failed worked.service worked.seats.items)
          (sym (ap (λ (v : View). v.got) c.take_in_all.ensures.view)) (c.push_and_work-pass.ensures.serves s.0 s.1 begun),
    )

pub returns-in-Ok : goal.returns-in-Ok
returns-in-Ok g c sessions each old before fine =
    let line = c.args.line.now in
    let senders = c.args.senders.items in
    let passes = c.in-Ok.passes in
    let worked = c.push_and_work-pass.result.0.1 in
    let last = c.drain.new.pass in
    let came = given_ok (λ passes. EachPushed line senders passes.items) _ passes c.in-Ok.is c.push_and_work-pass.ensures.pushed in
    let begun = subst (λ (l : List Item). Served g.N.AreaName.area old sessions l c.args.worker.failed c.args.worker.service c.args.worker.seats.items)
    (sym (ap (λ (v : View). v.got) c.requires.begun)) before in
    let middle = subst (λ (l : List Item). Served g.N.AreaName.area old sessions l worked.failed worked.service worked.seats.items)
    (sym (ap (λ (v : View). v.got) c.take_in_all.ensures.view)) (c.push_and_work-pass.ensures.serves old sessions begun) in
    let made : (view last).made ≡ length (lists_of sessions) =
    ap (λ (v : View). v.made) c.drain.ensures.view ∙ ap (λ (v : View). v.made) c.take_in_all.ensures.view
    ∙ ap (λ (v : View). v.made) c.push_and_work-pass.ensures.view ∙ ap (λ (v : View). v.made) c.requires.begun
    ∙ as_many_seated line 0 sessions senders each in
    let done : (view last).done ≡ lists_of sessions =
    ap (λ (v : View). v.done) c.drain.ensures.view ∙ ap (λ (v : View). v.done) c.take_in_all.ensures.view
    ∙ puts_all line 0 sessions senders passes.items each came in
    record {
      got = (view last).got;
      serves = c.drain.ensures.serves old sessions middle fine;
      all = settled (view last) (lists_of sessions) c.drain.ensures.accounts done made;
    }
