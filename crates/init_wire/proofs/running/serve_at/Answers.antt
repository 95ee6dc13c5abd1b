use Rattle.std.proofs.lemmas.Result.{err_from_is_err_and}
use Rattle.prop_wire.specs.Serving.{place_of}
use Rattle.init_wire.proofs.Answering.{nothing_answers, serving_answers}
use Rattle.init_wire.proofs.running.serve_at.Goals as goal

pub returns-in_err-reader-clause-answered : goal.returns-in_err-reader-clause-answered
returns-in_err-reader-clause-answered g c held is =
    let p = err_from_is_err_and c.from_residual.result c.from_residual.ensures.1 in
    rw (p.1, p.2) (nothing_answers c.args.desk.now.opening held (g.K.Sink.taken c.args.to.now))

pub returns-clause-answered : goal.returns-clause-answered
returns-clause-answered g c held is =
    let booted = c.in_ok-reader.ensures in
    serving_answers c.args.desk.now.opening held c.in_ok-reader.reader.view.who (place_of c.boot.new.desk (g.K.Sink.taken c.args.to.now))
    (place_of c.serve-reader.new.desk (g.K.Sink.taken c.serve-reader.new.to)) c.serve-reader.result.1 booted.opening booted.inputs booted.who
    (c.serve-reader.ensures.serves held is) (c.serve-reader.ensures.limit held is)
