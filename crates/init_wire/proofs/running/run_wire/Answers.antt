use Rattle.std.proofs.Common.{◌≡◌, ap, ◌∙◌, subst}
use Rattle.std.proofs.lemmas.Result.{IfOk-at_ok, err_from_is_err_and}
use Rattle.init_core.specs.Core.{opening_of}
use Rattle.init_machine.specs.Policy.{PolicyLines}
use Rattle.init_machine.specs.State.{Opening}
use Rattle.init_machine.specs.declared.config.Config.{Config}
use Rattle.property_area.specs.Area.{begins}
use Rattle.property_area.specs.declared.view.AreaView.{AreaView}
use Rattle.init_wire.specs.Served.{IsAnswered}
use Rattle.init_wire.proofs.Answering.{nothing_answers}
use Rattle.init_wire.proofs.running.run_wire.Goals as goal

pub returns-in_err-machine-clause-answered : goal.returns-in_err-machine-clause-answered
returns-in_err-machine-clause-answered g c held is =
    let p = err_from_is_err_and c.from_residual.result c.from_residual.ensures.1 in
    rw (p.1, p.2) (nothing_answers (opening_of c.args.setup.config c.args.setup.policy c.args.words) held (g.K.Sink.taken c.args.to.now))

pub returns-clause-answered : goal.returns-clause-answered
returns-clause-answered g c held is =
    let made = IfOk-at_ok (λ made. (made.1.table ≡ made.0) × (made.1.view ≡ begins c.args.words)) c.in_ok-machine.ensures.pair.1 c.open_area.ensures in
    let machine = ap (λ (m : Config × PolicyLines). opening_of m.0 m.1 c.in_ok-machine.seat.view.words) c.in_ok-machine.ensures.pair.0 in
    let opening = machine ∙ ap (λ (v : AreaView). opening_of c.args.setup.config c.args.setup.policy v.words) made.1 in
    subst (λ (o : Opening). IsAnswered o held (g.K.Sink.taken c.args.to.now) (g.K.Sink.taken c.serve_over-served.new.to) c.serve_over-served.result) opening
    (c.serve_over-served.ensures.answered held is)
