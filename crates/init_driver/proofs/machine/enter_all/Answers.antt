use Rattle.std.proofs.Common.{◌+◌, List, Option, sym, subst}
use Rattle.property_area.specs.Seats.{Seated}
use Rattle.init_driver.proofs.Taken.{Entered, entered_none, entered_one}
use Rattle.init_driver.proofs.machine.enter_all.Goals as goal

pub loop-place-init : goal.loop-place-init
loop-place-init g c =
    subst (λ (rs : List (Option Seated)). Entered g.N.AreaName.area c.args.desk.now c.args.desk.now 0 rs) (sym c.new-readers.ensures.items)
    (entered_none g.N.AreaName.area c.args.desk.now c.requires.nobody c.requires.ready)

pub loop-place-preserved : goal.loop-place-preserved
loop-place-preserved g c =
    let ok = c.in_ok-reader.ensures in
    subst (λ (rs : List (Option Seated)). Entered g.N.AreaName.area c.args.desk.now c.enter.new.self (c.loop-place.place + 1) rs) (sym c.in_ok-push.ensures.items)
    (entered_one g.N.AreaName.area c.args.desk.now c.loop-place.desk c.enter.new.self c.loop-place.place c.loop-place.readers.items c.in_ok-reader.reader c.loop-place.invariant
    ok.reader.0 ok.reader.1 ok.list.0 ok.list.1 ok.same.0 ok.same.1 ok.seats ok.ready)
