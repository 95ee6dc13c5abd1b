use Rattle.std.proofs.Common.{◌≡◌, ◌+◌, false, List, drop, sym, ap, ◌∙◌}
use Rattle.std.specs.List.{list_any}
use Rattle.init_machine.specs.declared.report.Reading.{Reading}
use Rattle.trace_audit.specs.Lists.{is_no_higher}
use Rattle.trace_audit.proofs.Values.{rest_is, rises_on}
use Rattle.trace_audit.proofs.order.seconds_rise.Goals as goal

pub loop-place-preserved : goal.loop-place-preserved
loop-place-preserved c =
    let readings = c.args.readings.now in
    let none : list_any (is_no_higher c.in-Again.name c.in-Again.second) (drop (c.loop-place.place + 1) readings) ≡ false =
    ap (λ (rs : List Reading). list_any (is_no_higher c.in-Again.name c.in-Again.second) rs) (sym (rest_is readings (c.loop-place.place + 1)))
    ∙ sym c.has_no_higher.ensures ∙ c.if-has_no_higher.false in
    rises_on readings c.loop-place.place c.index-readings-place.result c.in-Again.name c.in-Again.number c.in-Again.first c.in-Again.second _
    c.loop-place-test.true c.index-readings-place.is c.in-Again.is none c.loop-place.invariant
