use Rattle.std.proofs.Common.{refl, ◌∙◌}
use Rattle.std.proofs.lemmas.Bool.{both_ways}
use Rattle.prop_wire.specs.Limit.{stream_of}
use Rattle.prop_wire.specs.Serving.{place_of}
use Rattle.prop_wire.specs.declared.refusal.WireRefusal.TheVariants as refusal
use Rattle.prop_wire.proofs.Ends.{held_serves, held_tells, never_spent, serves_none}
use Rattle.prop_wire.proofs.serving.serve.Goals as goal

pub returns-then-is_spent-clause-serves : goal.returns-then-is_spent-clause-serves
returns-then-is_spent-clause-serves g c held is =
    serves_none c.args.reader.view.who 0 (stream_of held) (place_of (g.D.WireDesk.view c.args.desk.now) (g.K.Sink.taken c.args.to.now)) refusal.Spent (λ _ _ _. tt) refl

pub returns-clause-serves : goal.returns-clause-serves
returns-clause-serves g c held is =
    held_serves (g.S.Source.left c.args.from.now) (g.S.Source.left c.serve_stream-served.new.from) held c.args.reader.view.who
    (place_of (g.D.WireDesk.view c.args.desk.now) (g.K.Sink.taken c.args.to.now)) (place_of (g.D.WireDesk.view c.serve_stream-served.new.desk) (g.K.Sink.taken c.serve_stream-served.new.to))
    c.serve_stream-served.result is c.serve_stream-served.ensures.serves

pub returns-clause-spent : goal.returns-clause-spent
returns-clause-spent g c = (
  λ is. absurd (never_spent _ _ _ _ _ c.serve_stream-served.result c.serve_stream-served.ensures.serves is),
  λ spent. absurd (both_ways c.is_spent.result c.if-is_spent.false (c.is_spent.ensures ∙ spent)),
)

pub returns-clause-unchanged : goal.returns-clause-unchanged
returns-clause-unchanged g c is = absurd (never_spent _ _ _ _ _ c.serve_stream-served.result c.serve_stream-served.ensures.serves is)

pub returns-clause-limit : goal.returns-clause-limit
returns-clause-limit g c held is =
    held_tells (g.S.Source.left c.args.from.now) (g.S.Source.left c.serve_stream-served.new.from) held c.args.reader.view.who
    (place_of (g.D.WireDesk.view c.args.desk.now) (g.K.Sink.taken c.args.to.now)) (place_of (g.D.WireDesk.view c.serve_stream-served.new.desk) (g.K.Sink.taken c.serve_stream-served.new.to))
    c.serve_stream-served.result is c.serve_stream-served.ensures.serves
