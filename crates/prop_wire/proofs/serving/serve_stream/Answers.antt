use Rattle.std.proofs.lemmas.Result.{err_from_is_err_and}
use Rattle.prop_wire.specs.Serving.{place_of}
use Rattle.prop_wire.specs.internal.Course.{who_in}
use Rattle.prop_wire.proofs.Pasts.{source_none}
use Rattle.prop_wire.proofs.serving.serve_stream.Goals as goal

pub returns-in_err-stream-clause-serves : goal.returns-in_err-stream-clause-serves
returns-in_err-stream-clause-serves g c =
    let p = err_from_is_err_and c.from_residual.result c.from_residual.ensures.1 in
    rw (p.1, p.2) (source_none (who_in c.args.reader.now) (g.S.Source.left c.args.from.now) (place_of (g.D.WireDesk.view c.args.desk.now) (g.K.Sink.taken c.args.to.now)))
