use Rattle.std.proofs.lemmas.Result.{err_from_is_err_and}
use Rattle.script_lang.specs.Inputs.{ask_inputs}
use Rattle.init_driver.specs.Course.{place_of, view_of}
use Rattle.init_driver.specs.Keeper.{seen_by}
use Rattle.init_driver.proofs.Courses.{leads_nothing, no_inputs, takes_none}
use Rattle.init_driver.proofs.acts.take_ask.Goals as goal

pub returns-in_err-share-clause-takes : goal.returns-in_err-share-clause-takes
returns-in_err-share-clause-takes g c =
    let p = err_from_is_err_and c.from_residual.result c.from_residual.ensures.1 in
    rw (p.1, p.2) (let a = place_of (view_of c.args.traced.now) (g.K.Sink.taken c.args.out.now) (seen_by g.P.Keeper.held g.P.Keeper.TellsCrash g.P.Keeper.moment g.P.Keeper.MayLeave c.args.keeper.now) in takes_none (ask_inputs c.args.who c.args.ask.now) a)

pub returns-in_err-share-2-clause-takes : goal.returns-in_err-share-2-clause-takes
returns-in_err-share-2-clause-takes g c =
    let p = err_from_is_err_and c.from_residual-in_err-share-2.result c.from_residual-in_err-share-2.ensures.1 in
    rw (p.1, p.2) (let a = place_of (view_of c.args.traced.now) (g.K.Sink.taken c.args.out.now) (seen_by g.P.Keeper.held g.P.Keeper.TellsCrash g.P.Keeper.moment g.P.Keeper.MayLeave c.args.keeper.now) in takes_none (ask_inputs c.args.who c.args.ask.now) a)

pub returns-in_default-clause-takes : goal.returns-in_default-clause-takes
returns-in_default-clause-takes g c =
    let a = place_of (view_of c.args.traced.now) (g.K.Sink.taken c.args.out.now) (seen_by g.P.Keeper.held g.P.Keeper.TellsCrash g.P.Keeper.moment g.P.Keeper.MayLeave c.args.keeper.now) in
    rw (no_inputs c.args.who c.args.ask.now c.in_default.not-Set) (leads_nothing a)
