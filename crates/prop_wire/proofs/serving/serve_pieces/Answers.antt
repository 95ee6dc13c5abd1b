use Rattle.std.proofs.Common.{refl, sym, subst, ◌∙◌, ◌++◌, Err}
use Rattle.std.proofs.lemmas.Result.{err_from_is_err_and}
use Rattle.prop_wire.specs.Serving.{place_of, Serves}
use Rattle.prop_wire.specs.internal.Course.{who_in, GoesBehind}
use Rattle.prop_wire.specs.internal.Streams.{tail_of}
use Rattle.prop_wire.proofs.Clients.{back_self, back_then, who_back}
use Rattle.prop_wire.proofs.Pasts.{has_ended, has_read, past_ended, past_more, past_none, past_stopped, past_unread}
use Rattle.prop_wire.proofs.serving.serve_pieces.Goals as goal

pub loop-desk-init : goal.loop-desk-init
loop-desk-init g c = record {
  past = past_none (who_in c.args.reader.now) (g.S.Source.left c.args.from.now) c.args.stream.now (place_of (g.D.WireDesk.view c.args.desk.now) (g.K.Sink.taken c.args.to.now))
      c.requires.fresh.0 c.requires.fresh.1 c.requires.fresh.2 c.requires.fresh.3 c.requires.ready;
  back = back_self g.D.WireDesk.area c.args.reader.now c.requires.reader;
  source = refl;
  sink = refl;
}

pub returns-in_err-read_on-clause-serves : goal.returns-in_err-read_on-clause-serves
returns-in_err-read_on-clause-serves g c =
    let p = err_from_is_err_and c.from_residual.result c.from_residual.ensures.1 in
    let left = g.S.Source.left in
    let a = place_of (g.D.WireDesk.view c.args.desk.now) (g.K.Sink.taken c.args.to.now) in
    let b = place_of (g.D.WireDesk.view c.loop-desk.desk) (g.K.Sink.taken c.loop-desk.to) in
    rw (p.1, p.2) (past_unread (who_in c.args.reader.now) (left c.args.from.now) (left c.loop-desk.from) (left c.read_on.new.from) c.loop-desk.stream c.read_on.new.self.piece a b
    c.in_err-read_on.field-0.0 c.loop-desk.invariant.past c.in_err-read_on.ensures.draws)

pub loop-desk-preserved : goal.loop-desk-preserved
loop-desk-preserved g c =
    let left = g.S.Source.left in
    let who = who_in c.args.reader.now in
    let s = c.loop-desk.stream in
    let t = c.read_on.new.self in
    let a = place_of (g.D.WireDesk.view c.args.desk.now) (g.K.Sink.taken c.args.to.now) in
    let b = place_of (g.D.WireDesk.view c.loop-desk.desk) (g.K.Sink.taken c.loop-desk.to) in
    let d = place_of (g.D.WireDesk.view c.answer_piece.new.desk) (g.K.Sink.taken c.answer_piece.new.to) in
    let read = has_read (left c.loop-desk.from) (left c.read_on.new.from) s t c.in_ok-read_on.field-0 c.if-branch.true c.in_ok-read_on.ensures.draws
    (λ r is ok. c.in_ok-read_on.ensures.read (sym is ∙ ok)) c.in_ok-read_on.ensures.rest in
    let goes = subst (λ n. GoesBehind n t c.answer_piece.new.stream b d) (who_back c.args.reader.now c.loop-desk.reader c.loop-desk.invariant.back) c.in_ok-answer_piece.ensures.answers in
    record {
      past = past_more who (left c.args.from.now) (left c.loop-desk.from) (left c.read_on.new.from) s t c.answer_piece.new.stream a b d c.loop-desk.invariant.past read goes
          c.in_ok-answer_piece.ensures.remains.1;
      back = back_then c.args.reader.now c.loop-desk.reader c.answer_piece.new.reader c.loop-desk.invariant.back c.in_ok-answer_piece.ensures.remains.0;
      source = c.in_ok-read_on.ensures.cause ∙ c.loop-desk.invariant.source;
      sink = c.in_ok-answer_piece.ensures.cause ∙ c.loop-desk.invariant.sink;
    }

pub returns-in_err-answer_piece-clause-serves : goal.returns-in_err-answer_piece-clause-serves
returns-in_err-answer_piece-clause-serves g c =
    let p = err_from_is_err_and c.from_residual-in_err-answer_piece.result c.from_residual-in_err-answer_piece.ensures.1 in
    let left = g.S.Source.left in
    let who = who_in c.args.reader.now in
    let s = c.loop-desk.stream in
    let t = c.read_on.new.self in
    let e = c.in_err-answer_piece.field-0.0 in
    let a = place_of (g.D.WireDesk.view c.args.desk.now) (g.K.Sink.taken c.args.to.now) in
    let b = place_of (g.D.WireDesk.view c.loop-desk.desk) (g.K.Sink.taken c.loop-desk.to) in
    let d = place_of (g.D.WireDesk.view c.answer_piece.new.desk) (g.K.Sink.taken c.answer_piece.new.to) in
    let read = has_read (left c.loop-desk.from) (left c.read_on.new.from) s t c.in_ok-read_on.field-0 c.if-branch.true c.in_ok-read_on.ensures.draws
    (λ r is ok. c.in_ok-read_on.ensures.read (sym is ∙ ok)) c.in_ok-read_on.ensures.rest in
    let answers = c.in_err-answer_piece.ensures.answers in
    rw (p.1, p.2) (past_stopped who (left c.args.from.now) (left c.loop-desk.from) (left c.read_on.new.from) s t a b d e c.loop-desk.invariant.past read answers.0
    (subst (λ n. Serves n t.whole (tail_of t.feeder ++ t.piece) b d (Err e)) (who_back c.args.reader.now c.loop-desk.reader c.loop-desk.invariant.back) answers.1))

pub returns-clause-serves : goal.returns-clause-serves
returns-clause-serves g c =
    let left = g.S.Source.left in
    let s = c.loop-desk.stream in
    let t = c.read_on.new.self in
    let a = place_of (g.D.WireDesk.view c.args.desk.now) (g.K.Sink.taken c.args.to.now) in
    let b = place_of (g.D.WireDesk.view c.loop-desk.desk) (g.K.Sink.taken c.loop-desk.to) in
    let ended = has_ended (left c.loop-desk.from) (left c.read_on.new.from) s t c.in_ok-read_on.field-0 c.if-branch.false c.in_ok-read_on.ensures.draws
    (λ r is ok. c.in_ok-read_on.ensures.end (sym is ∙ ok)) c.in_ok-read_on.ensures.rest in
    past_ended (who_in c.args.reader.now) (left c.args.from.now) (left c.loop-desk.from) (left c.read_on.new.from) s t a b c.end.result c.loop-desk.invariant.past ended c.end.ensures
