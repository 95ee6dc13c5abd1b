use Rattle.std.proofs.lemmas.Result.{err_from_is_err_and}
use Rattle.init_core.specs.Core.{opening_of}
use Rattle.init_driver.specs.Keeper.{seen_by}
use Rattle.init_driver.proofs.Texts.{nothing_left}
use Rattle.init_driver.proofs.running.run.Goals as goal

pub returns-in_err-area-clause-leaves : goal.returns-in_err-area-clause-leaves
returns-in_err-area-clause-leaves g c =
    let p = err_from_is_err_and c.from_residual.result c.from_residual.ensures.1 in
    let seen = seen_by g.P.Keeper.held g.P.Keeper.TellsCrash g.P.Keeper.moment g.P.Keeper.MayLeave c.args.keeper.now in
    rw (p.1, p.2) (nothing_left (opening_of c.args.setup.config c.args.setup.policy c.args.script.now.words) c.args.setup.diagnostics c.args.script.now (g.K.Sink.taken c.args.out.now) seen)
