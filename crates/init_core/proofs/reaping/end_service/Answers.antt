use Rattle.std.proofs.Common.{ap, sym, ◌∙◌}
use Rattle.std.specs.List.{slice_get}
use Rattle.std.proofs.lemmas.Result.{on_ok_weaker}
use Rattle.services.specs.Services.{ServicesView}
use Rattle.init_core.proofs.Exits.{ends, ends_stopped, ends_exited}
use Rattle.init_core.proofs.reaping.end_service.Goals as goal

pub returns-in-Stopped-clause-done : goal.returns-in-Stopped-clause-done
returns-in-Stopped-clause-done g c =
    let applied = c.in_ok-apply.ensures in
    on_ok_weaker c.tell.result
    (λ done. ends g.met.O.Outputs.joins c.args.parts.now c.tell.new.parts c.apply.new.self c.args.at c.in-Some.service.now _ c.in-Some.ensures applied.services (sym c.in-Stopped.is ∙ applied.todo)
    (ends_stopped g.met.O.Outputs.joins _ _ c.args.at c.in-Some.service.now c.in_ok-name.name c.in_ok-name.ensures done))
    c.tell.ensures.done

pub returns-in-Exited-clause-done : goal.returns-in-Exited-clause-done
returns-in-Exited-clause-done g c =
    let applied = c.in_ok-apply.ensures in
    let there = ap (λ (services : ServicesView). slice_get services.defs c.args.at) applied.services ∙ sym c.in-Some.ensures in
    on_ok_weaker c.exited.result
    (λ done. ends g.met.O.Outputs.joins c.args.parts.now c.exited.new.parts c.apply.new.self c.args.at c.in-Some.service.now _ c.in-Some.ensures applied.services (sym c.in-Exited.is ∙ applied.todo)
    (ends_exited g.met.O.Outputs.joins _ _ c.args.at c.in-Some.service.now done))
    (c.exited.ensures.done c.in-Some.service.now there)
