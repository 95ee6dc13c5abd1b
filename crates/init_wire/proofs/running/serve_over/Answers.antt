use Rattle.std.proofs.Common.{ap, ◌∙◌, subst}
use Rattle.std.proofs.lemmas.Result.{err_from_is_err_and}
use Rattle.init_core.specs.Core.{opening_of}
use Rattle.init_machine.specs.State.{Opening}
use Rattle.property_area.specs.Seats.{Seated}
use Rattle.init_wire.specs.Served.{IsAnswered}
use Rattle.init_wire.proofs.Answering.{nothing_answers}
use Rattle.init_wire.proofs.running.serve_over.Goals as goal

pub returns-in_err-desk-clause-answered : goal.returns-in_err-desk-clause-answered
returns-in_err-desk-clause-answered g c held is =
    let p = err_from_is_err_and c.from_residual.result c.from_residual.ensures.1 in
    rw (p.1, p.2) (nothing_answers (opening_of c.args.machine.0 c.args.machine.1 c.args.seat.view.words) held (g.K.Sink.taken c.args.to.now))

pub returns-clause-answered : goal.returns-clause-answered
returns-clause-answered g c held is =
    let opening = c.in_ok-desk.ensures.opening ∙ ap (λ (s : Seated). opening_of c.args.machine.0 c.args.machine.1 s.view.words) c.new-writer.ensures in
    subst (λ (o : Opening). IsAnswered o held (g.K.Sink.taken c.args.to.now) (g.K.Sink.taken c.serve_at-served.new.to) c.serve_at-served.result) opening
    (c.serve_at-served.ensures.answered held is)
