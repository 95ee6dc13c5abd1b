use Rattle.std.proofs.Common.{◌≤◌, false, List, Option, Some, length, set, refl, sym, ap, ◌∙◌, subst}
use Rattle.init_core.specs.Core.{IsDeclared, without_saved}
use Rattle.init_machine.specs.declared.report.Entry.{Entry}
use Rattle.property_area.specs.Seats.{Seated}
use Rattle.init_driver.specs.Machine.{AllSeated, MachineView, machine_of, step_of}
use Rattle.init_driver.proofs.Machines.{asker_known, lines_same, may_ask, seated_again, seated_here, within_seats}
use Rattle.init_driver.proofs.Taken.{TakenSo, spent_over, taken_so}
use Rattle.init_driver.proofs.machine.Machine.take.Goals as goal

pub lend-requires : goal.lend-requires
lend-requires g c =
    let s = c.self.inside.desk in
    let declared = subst (λ (m : MachineView). IsDeclared m.config c.args.input.now) (sym c.self.view_is) c.requires.declared in
    let known = subst (λ k. k ≤ length s.opening.config.domains) (sym c.asker-place.ensures) (asker_known (without_saved s.opening.config) c.args.input.now declared) in
    within_seats _ s c.self.inside.readers.items c.asker-place.result.0 (c.self.invariant.1 c.if-self.false) known

pub take_input-requires-clause-area : goal.take_input-requires-clause-area
take_input-requires-clause-area g c =
    let s = c.self.inside.desk in
    let declared = subst (λ (m : MachineView). IsDeclared m.config c.args.input.now) (sym c.self.view_is) c.requires.declared in
    let known = subst (λ k. k ≤ length s.opening.config.domains) (sym c.asker-place.ensures) (asker_known (without_saved s.opening.config) c.args.input.now declared) in
    (seated_here _ s c.self.inside.readers.items c.asker-place.result.0 c.in_ok-reader.reader (c.self.invariant.1 c.if-self.false) known c.in_ok-reader.ensures.reader).table

pub take_input-requires-clause-asker : goal.take_input-requires-clause-asker
take_input-requires-clause-asker g c =
    let s = c.self.inside.desk in
    let declared = subst (λ (m : MachineView). IsDeclared m.config c.args.input.now) (sym c.self.view_is) c.requires.declared in
    let known = subst (λ k. k ≤ length s.opening.config.domains) (sym c.asker-place.ensures) (asker_known (without_saved s.opening.config) c.args.input.now declared) in
    (seated_here _ s c.self.inside.readers.items c.asker-place.result.0 c.in_ok-reader.reader (c.self.invariant.1 c.if-self.false) known c.in_ok-reader.ensures.reader).who_is ∙ c.asker-place.ensures

pub take_input-requires-clause-declared : goal.take_input-requires-clause-declared
take_input-requires-clause-declared g c =
    let s = c.self.inside.desk in
    let declared = subst (λ (m : MachineView). IsDeclared m.config c.args.input.now) (sym c.self.view_is) c.requires.declared in
    let known = subst (λ k. k ≤ length s.opening.config.domains) (sym c.asker-place.ensures) (asker_known (without_saved s.opening.config) c.args.input.now declared) in
    may_ask s.opening c.in_ok-reader.reader.view.opening c.args.input.now
    (seated_here _ s c.self.inside.readers.items c.asker-place.result.0 c.in_ok-reader.reader (c.self.invariant.1 c.if-self.false) known c.in_ok-reader.ensures.reader).opening declared

pub invariant_of-self-2 : goal.invariant_of-self-2
invariant_of-self-2 g c = (
  c.self.invariant.0,
  λ ready.
      let s = c.self.inside.desk in
      let t = c.take_input.new.desk in
      let k = c.asker-place.result.0 in
      let declared = subst (λ (m : MachineView). IsDeclared m.config c.args.input.now) (sym c.self.view_is) c.requires.declared in
      let known = subst (λ n. n ≤ length s.opening.config.domains) (sym c.asker-place.ensures) (asker_known (without_saved s.opening.config) c.args.input.now declared) in
      let ok = c.in_ok-reader-2.ensures in
      let comes = ok.reader in
      subst (λ (l : List (Option Seated)). AllSeated g.N.AreaName.area t (set l k (Some c.in_ok-reader-2.reader))) (sym c.in_ok-reader.ensures.rest)
      (seated_again g.N.AreaName.area s c.self.inside.readers.items k c.in_ok-reader.reader (c.self.invariant.1 c.if-self.false) known c.in_ok-reader.ensures.reader t c.in_ok-reader-2.reader ok.opening ok.ready comes.table comes.who comes.opening),
)

pub invariant_of-self : goal.invariant_of-self
invariant_of-self g c = (c.self.invariant.0, λ over. spent_over over)

pub returns : goal.returns
returns g c =
    let s = c.self.inside.desk in
    let rs = c.self.inside.readers.items in
    let k = c.asker-place.result.0 in
    let t = c.take_input.new.desk in
    let declared = subst (λ (m : MachineView). IsDeclared m.config c.args.input.now) (sym c.self.view_is) c.requires.declared in
    let known = subst (λ n. n ≤ length s.opening.config.domains) (sym c.asker-place.ensures) (asker_known (without_saved s.opening.config) c.args.input.now declared) in
    let ok = c.in_ok-reader-2.ensures in
    let so = taken_so _ s rs k c.in_ok-reader.reader (c.self.invariant.1 c.if-self.false) known c.in_ok-reader.ensures.reader t c.args.input.now
    c.in_ok-reader-2.reader c.self.inside.spent (record { opening = ok.opening; history = ok.history; ready = ok.ready }) ok.reader in
    let lent = subst (λ (l : List (Option Seated)). TakenSo (machine_of s rs c.self.inside.spent) (machine_of t (set l k (Some c.in_ok-reader-2.reader)) false) c.args.input.now)
    (sym c.in_ok-reader.ensures.rest) so in
    let whole = subst (λ (m : MachineView). TakenSo m (machine_of t (set c.lend.new.readers.items k (Some c.in_ok-reader-2.reader)) false) c.args.input.now) c.self.view_is lent in
    record {
      config = whole.config;
      policy = whole.policy;
      state = whole.state;
      outputs =
          subst (λ (m : MachineView). g.O.Outputs.Adds c.args.outputs.now c.take_input.new.outputs (step_of m c.args.input.now).lines) c.self.view_is
          (subst (g.O.Outputs.Adds c.args.outputs.now c.take_input.new.outputs) (ap (λ (x : Entry). x.outputs) (lines_same s c.args.input.now)) ok.outputs);
      opening = whole.opening;
      history = whole.history;
      told = whole.told;
      ready = refl;
    }
