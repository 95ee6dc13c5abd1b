use Rattle.std.proofs.Common.{length, subst}
use Rattle.std.proofs.lemmas.Result.{err_from_is_err_and}
use Rattle.script_lang.specs.Inputs.{act_inputs}
use Rattle.script_lang.specs.Laws.{IsAskAmong}
use Rattle.init_driver.specs.Course.{place_of, view_of}
use Rattle.init_driver.specs.Keeper.{seen_by}
use Rattle.init_driver.proofs.Courses.{takes_none}
use Rattle.init_driver.proofs.acts.take_act.Goals as goal

pub returns-in_err-share-in-Exit-clause-takes : goal.returns-in_err-share-in-Exit-clause-takes
returns-in_err-share-in-Exit-clause-takes g c =
    let p = err_from_is_err_and c.from_residual.result c.from_residual.ensures.1 in
    let a = place_of (view_of c.args.traced.now) (g.K.Sink.taken c.args.out.now) (seen_by g.P.Keeper.held g.P.Keeper.TellsCrash g.P.Keeper.moment g.P.Keeper.MayLeave c.args.keeper.now) in
    rw (p.1, p.2) (takes_none (act_inputs c.args.act.now) a)

pub returns-in_err-share-in-File-clause-takes : goal.returns-in_err-share-in-File-clause-takes
returns-in_err-share-in-File-clause-takes g c =
    let p = err_from_is_err_and c.from_residual-in_err-share-in-File.result c.from_residual-in_err-share-in-File.ensures.1 in
    let a = place_of (view_of c.args.traced.now) (g.K.Sink.taken c.args.out.now) (seen_by g.P.Keeper.held g.P.Keeper.TellsCrash g.P.Keeper.moment g.P.Keeper.MayLeave c.args.keeper.now) in
    rw (p.1, p.2) (takes_none (act_inputs c.args.act.now) a)

pub returns-in_err-share-in-File-2-clause-takes : goal.returns-in_err-share-in-File-2-clause-takes
returns-in_err-share-in-File-2-clause-takes g c =
    let p = err_from_is_err_and c.from_residual-in_err-share-in-File-2.result c.from_residual-in_err-share-in-File-2.ensures.1 in
    let a = place_of (view_of c.args.traced.now) (g.K.Sink.taken c.args.out.now) (seen_by g.P.Keeper.held g.P.Keeper.TellsCrash g.P.Keeper.moment g.P.Keeper.MayLeave c.args.keeper.now) in
    rw (p.1, p.2) (takes_none (act_inputs c.args.act.now) a)

pub take_ask-requires-clause-from : goal.take_ask-requires-clause-from
take_ask-requires-clause-from g c = (subst (IsAskAmong (length c.args.traced.now.core.config.domains)) c.in-Ask.is c.requires.asked).0

pub take_ask-requires-clause-to : goal.take_ask-requires-clause-to
take_ask-requires-clause-to g c = (subst (IsAskAmong (length c.args.traced.now.core.config.domains)) c.in-Ask.is c.requires.asked).1
