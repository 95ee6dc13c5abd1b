use Rattle.std.proofs.Common.{◌≡◌, All, List, [], ◌∷◌, ◌++◌, length, sym, ap, ◌∙◌, arith}
use Rattle.init_machine.specs.State.{Opening}
use Rattle.init_race.specs.Race.{AreAll}
use Rattle.property_area.specs.Seats.{Seated}
use Rattle.init_dispatch.proofs.Clients.{are_clients, have_not_entered}
use Rattle.init_dispatch.proofs.Ended.{all_of_area, back_with, begun_with, ended_dispatched, none_missing, parts_silenced, served_of}
use Rattle.init_dispatch.proofs.running.run_actors.Goals as goal

pub serve-requires-clause-clients : goal.serve-requires-clause-clients
serve-requires-clause-clients g c κs within =
    let o = c.begin.new.service.opening in
    let many : length c.in-Ok.sessions ≡ length o.config.domains =
    c.in-Ok.ensures.many ∙ c.requires.domains ∙ sym (ap (λ (p : Opening). length p.config.domains) c.in-Ok.ensures.opening) in
    are_clients o c.args.script.now.acts c.in-Ok.sessions c.in-Ok.ensures.sessions_are (omega (arith, many))

pub serve-requires-clause-fresh : goal.serve-requires-clause-fresh
serve-requires-clause-fresh g c κs within =
    have_not_entered c.args.script.now.acts c.begin.new.service.seat c.in-Ok.sessions c.in-Ok.ensures.sessions_are c.in-Ok.ensures.seats

pub end_with-requires-clause-area : goal.end_with-requires-clause-area
end_with-requires-clause-area g c =
    let area = g.N.AreaName.area in
    let main = c.in_ok-main.main in
    let readers = c.in_ok-main.readers in
    let served = served_of area c.begin.new.service c.in_ok-main.service c.in-Ok.sessions readers c.serve.result c.in_ok-main.ensures.pair.1 c.serve.ensures in
    let begun = begun_with area c.args.service.opening c.args.script.now c.begin.new.service c.in-Ok.main main c.in-Ok.sessions c.in_ok-main.ensures.pair.0 c.in-Ok.ensures in
    back_with (λ (back : List Seated). All (λ (reader : Seated). reader.table ≡ area) back) (readers ++ main ∷ []) c.all_back-came.result
    (all_of_area area c.args.service.opening c.args.script.now c.begin.new.service c.in_ok-main.service main c.in-Ok.sessions readers begun served)
    c.all_back-came.ensures.readers

pub end_with-requires-clause-all : goal.end_with-requires-clause-all
end_with-requires-clause-all g c =
    let area = g.N.AreaName.area in
    let main = c.in_ok-main.main in
    let readers = c.in_ok-main.readers in
    let served = served_of area c.begin.new.service c.in_ok-main.service c.in-Ok.sessions readers c.serve.result c.in_ok-main.ensures.pair.1 c.serve.ensures in
    let begun = begun_with area c.args.service.opening c.args.script.now c.begin.new.service c.in-Ok.main main c.in-Ok.sessions c.in_ok-main.ensures.pair.0 c.in-Ok.ensures in
    back_with AreAll (readers ++ main ∷ []) c.all_back-came.result
    (none_missing area c.args.service.opening c.args.script.now c.begin.new.service c.in_ok-main.service main c.in-Ok.sessions readers c.requires.sets
    c.requires.domains begun served)
    c.all_back-came.ensures.readers

pub returns : goal.returns
returns g c =
    let area = g.N.AreaName.area in
    let main = c.in_ok-main.main in
    let readers = c.in_ok-main.readers in
    let served = served_of area c.begin.new.service c.in_ok-main.service c.in-Ok.sessions readers c.serve.result c.in_ok-main.ensures.pair.1 c.serve.ensures in
    let begun = begun_with area c.args.service.opening c.args.script.now c.begin.new.service c.in-Ok.main main c.in-Ok.sessions c.in_ok-main.ensures.pair.0 c.in-Ok.ensures in
    ended_dispatched area c.args.service.opening c.args.script.now c.begin.new.service c.in_ok-main.service main c.in-Ok.sessions readers
    c.all_back-came.result c.end_with.result c.requires.asks c.requires.sets c.requires.domains begun served c.all_back-came.ensures.readers
    (parts_silenced c.args.script.now.clients c.items.result.now c.all_back-came.result c.items.ensures c.all_back-came.ensures.parts)
    c.end_with.ensures.ended c.end_with.ensures.history
