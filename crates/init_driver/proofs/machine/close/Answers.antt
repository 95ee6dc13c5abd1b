use Rattle.std.proofs.Common.{Err, ap, ◌∙◌}
use Rattle.property_area.specs.Seats.{Seated}
use Rattle.property_area.specs.declared.view.AreaView.{AreaView}
use Rattle.init_driver.specs.Seat.{readings_at}
use Rattle.init_driver.proofs.Taken.{ended_log, ended_opening, ended_told, none_missing, of_area}
use Rattle.init_driver.proofs.machine.close.Goals as goal

pub finish-requires : goal.finish-requires
finish-requires g c = record { area = of_area _ c.args.desk c.args.readers.items c.in-Ok.readers (c.requires c.if-spent.false) c.in-Ok.ensures }

pub unreachable-requires : goal.unreachable-requires
unreachable-requires g c =
    let who = c.in-Err-Missing.field-0-0 in
    let missing = c.finish.ensures.missing who (c.in-Err-Missing.is ∙ ap (λ why. Err why) c.in-Err-Missing.field-0-is) in
    missing.0.1 (none_missing g.N.AreaName.area c.args.desk c.args.readers.items c.in-Ok.readers (c.requires c.if-spent.false) c.in-Ok.ensures who.0 missing.2)

pub returns-in-Ok-finish-clause-opening : goal.returns-in-Ok-finish-clause-opening
returns-in-Ok-finish-clause-opening g c =
    let ok = c.in-Ok-finish.ensures in
    ap (λ (s : Seated). s.view.opening) c.seat_of.ensures ∙ ap (λ (v : AreaView). v.opening) ok.seat.1
    ∙ ended_opening g.N.AreaName.area c.args.desk c.args.readers.items c.in-Ok.readers (c.requires c.if-spent.false) c.in-Ok.ensures ok.agrees

pub returns-in-Ok-finish-clause-log : goal.returns-in-Ok-finish-clause-log
returns-in-Ok-finish-clause-log g c =
    let ok = c.in-Ok-finish.ensures in
    ap (λ (s : Seated). s.view.log) c.seat_of.ensures ∙ ap (λ (v : AreaView). v.log) ok.seat.1
    ∙ ended_log g.N.AreaName.area c.args.desk c.args.readers.items c.in-Ok.readers (c.requires c.if-spent.false) c.in-Ok.ensures ok.agrees

pub returns-in-Ok-finish-clause-told : goal.returns-in-Ok-finish-clause-told
returns-in-Ok-finish-clause-told g c = λ who known.
    let ok = c.in-Ok-finish.ensures in
    ap (λ (s : Seated). readings_at s.view who) c.seat_of.ensures ∙ ap (λ (v : AreaView). readings_at v who) ok.seat.1
    ∙ ended_told g.N.AreaName.area c.args.desk c.args.readers.items c.in-Ok.readers (c.requires c.if-spent.false) c.in-Ok.ensures who known
