use Rattle.std.proofs.Common.{◌∷◌, []}
use Rattle.std.proofs.lemmas.Result.{err_from_is_err_and}
use Rattle.wire_format.specs.declared.message.Rest.TheVariants as rest
use Rattle.prop_wire.proofs.Courses.{answers_failed, answers_one}
use Rattle.prop_wire.proofs.answering.answer.Goals as goal

pub returns-in_err-reply-clause-answers : goal.returns-in_err-reply-clause-answers
returns-in_err-reply-clause-answers g c =
    let p = err_from_is_err_and c.from_residual.result c.from_residual.ensures.1 in
    rw p.1 (answers_failed _ (c.args.message.now ∷ []) rest.End (g.D.WireDesk.view c.args.desk.now) (g.D.WireDesk.view c.set.new.desk) (g.K.Sink.taken c.args.to.now) c.in_err-reply.ensures.err)

pub returns-clause-answers : goal.returns-clause-answers
returns-clause-answers g c =
    answers_one c.write_reply.result (g.D.WireDesk.view c.args.desk.now) (g.D.WireDesk.view c.set.new.desk) c.args.reader.now c.set.new.reader c.args.message.now c.in_ok-reply.reply c.in_form.result
    (g.K.Sink.taken c.args.to.now) (g.K.Sink.taken c.write_reply.new.to) c.in_ok-reply.ensures.set c.in_form.ensures c.write_reply.ensures.written
