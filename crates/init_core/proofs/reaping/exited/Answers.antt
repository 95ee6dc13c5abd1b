use Rattle.std.proofs.Common.{ap, sym, ◌∙◌}
use Rattle.std.specs.List.{slice_get}
use Rattle.std.proofs.lemmas.Result.{on_ok_weaker}
use Rattle.services.specs.Services.{ServicesView}
use Rattle.init_core.proofs.Exits.{not_critical, exits_plain, exits_critical}
use Rattle.init_core.proofs.reaping.exited.Goals as goal

pub returns-in_default-clause-done : goal.returns-in_default-clause-done
returns-in_default-clause-done g c = λ service found.
    on_ok_weaker c.restarting.result
    (exits_plain g.met.O.Outputs.joins c.args.parts.now c.restarting.new.parts c.args.at service (not_critical c.args.parts.now.services.defs c.args.at service found (sym c.in_default.is ∙ c.in_ok-target.ensures)))
    (c.restarting.ensures.done service found)

pub returns-then-is_fatal-clause-done : goal.returns-then-is_fatal-clause-done
returns-then-is_fatal-clause-done g c = λ service found.
    let booted = c.is_boot_completed-booted.ensures in
    let counts = c.in_ok-is_fatal.ensures in
    on_ok_weaker c.reboot.result
    (exits_critical g.met.O.Outputs.joins c.args.parts.now c.reboot.new.parts c.is_boot_completed-booted.new.store c.count_exit.new.self c.args.at service c.in-Some.target c.now-now.result.0 c.is_boot_completed-booted.result _
    found (sym c.in-Some.is ∙ c.in_ok-target.ensures) booted.same booted.told c.now-now.ensures.clock booted.answer counts.services (sym c.if-is_fatal.true ∙ counts.fatal))
    c.reboot.ensures.done

pub returns-clause-done : goal.returns-clause-done
returns-clause-done g c = λ service found.
    let booted = c.is_boot_completed-booted.ensures in
    let counts = c.in_ok-is_fatal.ensures in
    let there = ap (λ (services : ServicesView). slice_get services.defs c.args.at) counts.services ∙ found in
    on_ok_weaker c.restarting-2.result
    (exits_critical g.met.O.Outputs.joins c.args.parts.now c.restarting-2.new.parts c.is_boot_completed-booted.new.store c.count_exit.new.self c.args.at service c.in-Some.target c.now-now.result.0 c.is_boot_completed-booted.result _
    found (sym c.in-Some.is ∙ c.in_ok-target.ensures) booted.same booted.told c.now-now.ensures.clock booted.answer counts.services (sym c.if-is_fatal.false ∙ counts.fatal))
    (c.restarting-2.ensures.done service there)
