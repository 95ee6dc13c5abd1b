use Rattle.std.proofs.Common.{IfOk, ap, ◌∙◌, subst}
use Rattle.init_core.specs.Core.{opening_of}
use Rattle.init_machine.specs.State.{Opening}
use Rattle.property_area.specs.Seats.{Seated}
use Rattle.property_area.specs.declared.view.AreaView.{AreaView}
use Rattle.init_race.specs.Race.{AreRaced}
use Rattle.init_race.proofs.racing.run_over.Goals as goal

pub returns : goal.returns
returns g c =
    let config = c.args.machine.0 in
    let policy = c.args.machine.1 in
    let words = c.args.script.now.words in
    let view = ap (λ (s : Seated). s.view) c.new-writer.ensures ∙ c.requires.area.2 in
    let same = c.in_ok-service.ensures.opening ∙ ap (λ (v : AreaView). opening_of config policy v.words) view in
    subst (λ (o : Opening). IfOk c.run_actors.result (λ ended. AreRaced o c.args.script.now ended.finished ended.parts)) same c.run_actors.ensures
