use Rattle.std.proofs.Common.{subst, sym, ◌∙◌}
use Rattle.std.proofs.lemmas.Result.{on_ok_weaker}
use Rattle.init_core.specs.Core.{config_of, IsDeclared}
use Rattle.init_core.proofs.Responds.{does_boot, does_next, does_tick, does_exit, does_file, does_set, does_down}
use Rattle.init_core.proofs.step.respond.Goals as goal

pub returns-then-is_down-clause-done : goal.returns-then-is_down-clause-done
returns-then-is_down-clause-done g c =
    let old = c.args.parts.now in
    on_ok_weaker c.push.result (does_down g.met.O.Outputs.joins (config_of c.args.pairs.now c.args.domains.now old) old c.push.new.self c.args.input.now (sym c.if-is_down.true ∙ c.is_down.ensures)) c.push.ensures

pub returns-in-Boot-clause-done : goal.returns-in-Boot-clause-done
returns-in-Boot-clause-done g c =
    let old = c.args.parts.now in
    on_ok_weaker c.boot.result (does_boot g.met.O.Outputs.joins (config_of c.args.pairs.now c.args.domains.now old) old c.boot.new.parts c.args.input.now c.in-Boot.is) c.boot.ensures.done

pub returns-in-Next-clause-done : goal.returns-in-Next-clause-done
returns-in-Next-clause-done g c =
    let old = c.args.parts.now in
    on_ok_weaker c.next.result (does_next g.met.O.Outputs.joins (config_of c.args.pairs.now c.args.domains.now old) old c.next.new.parts c.args.input.now c.in-Next.is (sym c.if-is_down.false ∙ c.is_down.ensures)) c.next.ensures.done

pub returns-in-Tick-clause-done : goal.returns-in-Tick-clause-done
returns-in-Tick-clause-done g c =
    let old = c.args.parts.now in
    on_ok_weaker c.tick.result (does_tick g.met.O.Outputs.joins (config_of c.args.pairs.now c.args.domains.now old) old c.tick.new.parts c.args.input.now c.in-Tick.ms c.in-Tick.is (sym c.if-is_down.false ∙ c.is_down.ensures)) c.tick.ensures.done

pub returns-in-Exit-clause-done : goal.returns-in-Exit-clause-done
returns-in-Exit-clause-done g c =
    let old = c.args.parts.now in
    on_ok_weaker c.exit.result (does_exit g.met.O.Outputs.joins (config_of c.args.pairs.now c.args.domains.now old) old c.exit.new.parts c.args.input.now c.in-Exit.name c.in-Exit.status c.in-Exit.is (sym c.if-is_down.false ∙ c.is_down.ensures)) c.exit.ensures.done

pub returns-in-File-clause-done : goal.returns-in-File-clause-done
returns-in-File-clause-done g c =
    let old = c.args.parts.now in
    on_ok_weaker c.file.result (does_file g.met.O.Outputs.joins (config_of c.args.pairs.now c.args.domains.now old) old c.file.new.parts c.args.input.now c.in-File.path c.in-File.content c.in-File.is (sym c.if-is_down.false ∙ c.is_down.ensures)) c.file.ensures.done

pub set_of_client-requires-clause-from : goal.set_of_client-requires-clause-from
set_of_client-requires-clause-from g c = (subst (IsDeclared (config_of c.args.pairs.now c.args.domains.now c.args.parts.now)) c.in-Set.is c.requires).0

pub set_of_client-requires-clause-to : goal.set_of_client-requires-clause-to
set_of_client-requires-clause-to g c = (subst (IsDeclared (config_of c.args.pairs.now c.args.domains.now c.args.parts.now)) c.in-Set.is c.requires).1

pub returns-in-Set-clause-done : goal.returns-in-Set-clause-done
returns-in-Set-clause-done g c =
    let old = c.args.parts.now in
    on_ok_weaker c.set_of_client.result
    (does_set g.met.O.Outputs.joins (config_of c.args.pairs.now c.args.domains.now old) old c.set_of_client.new.parts c.args.input.now c.in-Set.who c.in-Set.name c.in-Set.value c.in-Set.is)
    c.set_of_client.ensures.done
