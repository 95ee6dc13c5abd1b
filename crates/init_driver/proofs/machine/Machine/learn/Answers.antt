use Rattle.std.proofs.Common.{◌≤◌, ◌∙◌, ◌++◌, ◌==◌, List, [], Option, Some, if◌then◌else◌, length, set, sym, ap, subst}
use Rattle.std.specs.List.{flat_map}
use Rattle.property_area.specs.Seats.{Seated}
use Rattle.init_driver.specs.Machine.{AllSeated, MachineView, told_to}
use Rattle.init_driver.specs.Readings.{readings_in as readings_told}
use Rattle.init_driver.specs.Seat.{told_with}
use Rattle.init_driver.proofs.Machines.{seated_again, seated_here, told_learned}
use Rattle.init_driver.proofs.machine.Machine.learn.Goals as goal

pub learn-requires-clause-reader : goal.learn-requires-clause-reader
learn-requires-clause-reader g c =
    let s = c.self.inside.desk in
    let known = subst (λ (m : MachineView). c.args.who.0 ≤ length m.config.domains) (sym c.self.view_is) c.requires.known in
    (seated_here _ s c.self.inside.readers.items c.args.who.0 c.in_ok-reader.reader (c.self.invariant.1 c.if-self.false) known c.in_ok-reader.ensures.reader).table

pub invariant_of-self-2 : goal.invariant_of-self-2
invariant_of-self-2 g c = (
  c.self.invariant.0,
  λ ready.
      let s = c.self.inside.desk in
      let h = c.self.invariant.1 c.if-self.false in
      let known = subst (λ (m : MachineView). c.args.who.0 ≤ length m.config.domains) (sym c.self.view_is) c.requires.known in
      let ok = c.in_ok-reader-2.ensures in
      subst (λ (l : List (Option Seated)). AllSeated g.N.AreaName.area c.learn.new.desk (set l c.args.who.0 (Some c.in_ok-reader-2.reader))) (sym c.in_ok-reader.ensures.rest)
      (seated_again g.N.AreaName.area s c.self.inside.readers.items c.args.who.0 c.in_ok-reader.reader h known c.in_ok-reader.ensures.reader c.learn.new.desk c.in_ok-reader-2.reader ok.desk.opening (ok.desk.ready h.ready)
      ok.learned.table ok.learned.who ok.learned.opening),
)

pub returns-clause-heard : goal.returns-clause-heard
returns-clause-heard g c =
    let s = c.self.inside.desk in
    let rs = c.self.inside.readers.items in
    let k = c.args.who.0 in
    let known = subst (λ (m : MachineView). k ≤ length m.config.domains) (sym c.self.view_is) c.requires.known in
    let more = flat_map told_with (readings_told c.in_ok-reader-2.told) in
    λ q.
    ap (λ (l : List (Option Seated)). told_to (set l k (Some c.in_ok-reader-2.reader)) q) c.in_ok-reader.ensures.rest
    ∙ told_learned _ s rs k c.in_ok-reader.reader (c.self.invariant.1 c.if-self.false) known c.in_ok-reader.ensures.reader c.args.ask.now c.in_ok-reader-2.told c.in_ok-reader-2.reader c.in_ok-reader-2.ensures.learned q
    ∙ ap (λ (m : MachineView). told_to m.readers q ++ (if k == q then more else [])) c.self.view_is
