use Rattle.std.proofs.Common.{sym, ◌∙◌}
use Rattle.std.proofs.lemmas.Result.{on_ok_weaker}
use Rattle.init_core.proofs.Asks.{boots, boots_again}
use Rattle.init_core.proofs.boot.boot.Goals as goal

pub returns-then-had_boot-clause-done : goal.returns-then-had_boot-clause-done
returns-then-had_boot-clause-done g c =
    on_ok_weaker c.push.result (boots_again g.met.O.Outputs.joins c.args.parts.now c.push.new.self c.args.pairs.now (sym c.if-had_boot.true ∙ c.had_boot.ensures)) c.push.ensures

pub returns-clause-done : goal.returns-clause-done
returns-clause-done g c =
    on_ok_weaker c.first_boot.result (boots g.met.O.Outputs.joins c.args.parts.now c.first_boot.new.parts c.args.pairs.now (sym c.if-had_boot.false ∙ c.had_boot.ensures)) c.first_boot.ensures.done
