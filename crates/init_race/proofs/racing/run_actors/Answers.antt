use Rattle.std.proofs.Common.{ℕ, List, nat_lt, length, ap, subst, arith}
use Rattle.property_area.specs.Area.{out_seat}
use Rattle.script_lang.specs.declared.script.Client.{Client}
use Rattle.init_race.specs.Seating.{AllSeated}
use Rattle.init_race.proofs.Returning.{back_all}
use Rattle.init_race.proofs.Seats.{all_may}
use Rattle.init_race.proofs.Through.{back_tables, ended_raced}
use Rattle.init_race.proofs.racing.run_actors.Goals as goal

pub seat_all-requires-clause-nobody : goal.seat_all-requires-clause-nobody
seat_all-requires-clause-nobody g c who = ap (λ (out : List (ℕ × ℕ)). nat_lt 0 (out_seat out who)) c.requires.begun.1

pub act_at-came-requires-clause-readers : goal.act_at-came-requires-clause-readers
act_at-came-requires-clause-readers g c = λ κs within.
    let clients = c.args.script.now.clients in
    let seated = subst (λ (these : List Client). AllSeated g.N.AreaName.area c.args.service.opening (length these) c.in-Ok.readers.items) c.items.ensures c.in-Ok.ensures in
    all_may g.N.AreaName.area c.args.service.opening (length clients) c.in-Ok.readers.items (omega (arith, c.requires.domains)) seated

pub end_with-requires-clause-area : goal.end_with-requires-clause-area
end_with-requires-clause-area g c =
    let clients = c.args.script.now.clients in
    let seated = subst (λ (these : List Client). AllSeated g.N.AreaName.area c.args.service.opening (length these) c.in-Ok.readers.items) c.items.ensures c.in-Ok.ensures in
    let may = all_may g.N.AreaName.area c.args.service.opening (length clients) c.in-Ok.readers.items (omega (arith, c.requires.domains)) seated in
    back_tables g.N.AreaName.area c.args.script.now c.in-Ok.readers.items c.act_at-came.result may c.act_at-came.ensures

pub end_with-requires-clause-all : goal.end_with-requires-clause-all
end_with-requires-clause-all g c =
    let seated = subst (λ (these : List Client). AllSeated g.N.AreaName.area c.args.service.opening (length these) c.in-Ok.readers.items) c.items.ensures c.in-Ok.ensures in
    back_all g.N.AreaName.area c.args.service.opening c.args.script.now c.in-Ok.readers.items c.act_at-came.result c.requires.domains seated c.act_at-came.ensures

pub returns : goal.returns
returns g c =
    let seated = subst (λ (these : List Client). AllSeated g.N.AreaName.area c.args.service.opening (length these) c.in-Ok.readers.items) c.items.ensures c.in-Ok.ensures in
    ended_raced g.N.AreaName.area c.args.service.opening c.args.script.now c.in-Ok.readers.items c.act_at-came.result c.end_with.result
    c.requires.asks c.requires.domains seated c.act_at-came.ensures c.end_with.ensures.ended
