use Rattle.std.proofs.Common.{◌+◌, true, false, ◌∙◌}
use Rattle.std.proofs.lemmas.Result.{err_from_is_err_and}
use Rattle.prop_wire.specs.Serving.{place_of}
use Rattle.prop_wire.specs.internal.Course.{who_in}
use Rattle.prop_wire.proofs.Clients.{back_then, who_back}
use Rattle.prop_wire.proofs.Courses.{answers_cut, answers_next}
use Rattle.prop_wire.proofs.answering.answer_all.Goals as goal

pub returns-in_err-answer-clause-answers : goal.returns-in_err-answer-clause-answers
returns-in_err-answer-clause-answers g c =
    let p = err_from_is_err_and c.from_residual.result c.from_residual.ensures.1 in
    let a = place_of (g.D.WireDesk.view c.args.desk.now) (g.K.Sink.taken c.args.to.now) in
    let b = place_of (g.D.WireDesk.view c.loop-message.desk) (g.K.Sink.taken c.loop-message.to) in
    let d = place_of (g.D.WireDesk.view c.answer.new.desk) (g.K.Sink.taken c.answer.new.to) in
    rw p.1 (answers_cut (who_in c.args.reader.now) c.args.messages.now (c.loop-message.message-index + 1) a d
    (answers_next false (who_in c.args.reader.now) (who_in c.loop-message.reader) c.args.messages.now c.loop-message.message-index c.message-item.result a b d
    c.loop-message-test.true c.message-item.is (who_back c.args.reader.now c.loop-message.reader c.loop-message.invariant.back)
    c.loop-message.invariant.answers c.loop-message.invariant.ready c.in_err-answer.ensures.answers))

pub loop-message-preserved : goal.loop-message-preserved
loop-message-preserved g c =
    let a = place_of (g.D.WireDesk.view c.args.desk.now) (g.K.Sink.taken c.args.to.now) in
    let b = place_of (g.D.WireDesk.view c.loop-message.desk) (g.K.Sink.taken c.loop-message.to) in
    let d = place_of (g.D.WireDesk.view c.answer.new.desk) (g.K.Sink.taken c.answer.new.to) in
    record {
      answers = answers_next true (who_in c.args.reader.now) (who_in c.loop-message.reader) c.args.messages.now c.loop-message.message-index c.message-item.result a b d
          c.loop-message-test.true c.message-item.is (who_back c.args.reader.now c.loop-message.reader c.loop-message.invariant.back)
          c.loop-message.invariant.answers c.loop-message.invariant.ready c.in_ok-answer.ensures.answers;
      ready = c.in_ok-answer.ensures.remains.1;
      back = back_then c.args.reader.now c.loop-message.reader c.answer.new.reader c.loop-message.invariant.back c.in_ok-answer.ensures.remains.0;
      faults = c.in_ok-answer.ensures.cause ∙ c.loop-message.invariant.faults;
    }
