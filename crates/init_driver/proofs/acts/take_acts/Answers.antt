use Rattle.std.proofs.Common.{◌∙◌, ◌+◌, drop, length, refl, sym, ap, subst, arith}
use Rattle.std.specs.List.{flat_map}
use Rattle.std.proofs.lemmas.Result.{err_from_is_err_and}
use Rattle.std.proofs.Math.ListN.{drop_of_length-le}
use Rattle.init_machine.specs.declared.config.Config.{Config}
use Rattle.script_lang.specs.Inputs.{act_inputs}
use Rattle.script_lang.specs.Laws.{IsAskAmong}
use Rattle.init_driver.specs.Course.{TracedView, place_of, told_from, view_of}
use Rattle.init_driver.specs.Keeper.{seen_by}
use Rattle.init_driver.specs.Machine.{told_to}
use Rattle.init_driver.proofs.Courses.{Going, act_left, acts_left, gone, going_begins, going_ends, going_on, going_stops, after_same, same_place}
use Rattle.init_driver.proofs.Declared.{among_more}
use Rattle.init_driver.proofs.Keepers.{took_nothing}
use Rattle.init_driver.proofs.Reached.{reached_within}
use Rattle.init_driver.proofs.Told.{told_by_none, told_length, told_alike, told_on}
use Rattle.init_driver.proofs.acts.take_acts.Goals as goal

pub loop-act-init : goal.loop-act-init
loop-act-init g c = record { going = going_begins _ _ _ refl; told = refl; heard = c.requires.heard; count = refl; keeper = refl; sink = refl }

pub tell-requires-clause-asked : goal.tell-requires-clause-asked
tell-requires-clause-asked g c =
    let at = c.requires.asks c.loop-act.act-index c.act-item.result c.loop-act-test.true in
    subst (λ n. IsAskAmong n c.act-item.result) (sym c.loop-act.invariant.count) (subst (IsAskAmong (length c.args.parts.now.items)) (sym c.act-item.is) at)

pub tell-requires-clause-domains : goal.tell-requires-clause-domains
tell-requires-clause-domains g c =
    let same = ap (λ (config : Config). length config.domains) c.loop-act.invariant.going.leads.config in
    omega (arith, same, c.loop-act.invariant.count, c.requires.domains)

pub take_act-requires-clause-reached : goal.take_act-requires-clause-reached
take_act-requires-clause-reached g c =
    let a = place_of (view_of c.args.traced.now) (g.K.Sink.taken c.args.out.now) (seen_by g.P.Keeper.held g.P.Keeper.TellsCrash g.P.Keeper.moment g.P.Keeper.MayLeave c.args.keeper.now) in
    let told : TracedView = record { core = c.tell.new.core; printer = c.loop-act.traced.printer.bytes } in
    let ok = c.in_ok-tell.ensures in
    let same = same_place (view_of c.loop-act.traced) told (g.K.Sink.taken c.loop-act.out) (seen_by g.P.Keeper.held g.P.Keeper.TellsCrash g.P.Keeper.moment g.P.Keeper.MayLeave c.loop-act.keeper) ok.same refl in
    let left = flat_map act_inputs (drop c.loop-act.act-index c.args.acts.now) in
    reached_within (flat_map act_inputs c.args.acts.now) left a (place_of told (g.K.Sink.taken c.loop-act.out) (seen_by g.P.Keeper.held g.P.Keeper.TellsCrash g.P.Keeper.moment g.P.Keeper.MayLeave c.loop-act.keeper))
    (subst (Going (flat_map act_inputs c.args.acts.now) left a) same c.loop-act.invariant.going) c.requires.reached

pub take_act-requires-clause-asked : goal.take_act-requires-clause-asked
take_act-requires-clause-asked g c =
    let at = c.requires.asks c.loop-act.act-index c.act-item.result c.loop-act-test.true in
    let among = among_more _ _ c.requires.domains c.act-item.result (subst (IsAskAmong (length c.args.parts.now.items)) (sym c.act-item.is) at) in
    let same = ap (λ (config : Config). length config.domains) (c.in_ok-tell.ensures.same.config ∙ c.loop-act.invariant.going.leads.config) in
    subst (λ n. IsAskAmong n c.act-item.result) (sym same) among

pub returns-in_err-tell-clause-takes : goal.returns-in_err-tell-clause-takes
returns-in_err-tell-clause-takes g c =
    let p = err_from_is_err_and c.from_residual.result c.from_residual.ensures.1 in
    let seen = seen_by g.P.Keeper.held g.P.Keeper.TellsCrash g.P.Keeper.moment g.P.Keeper.MayLeave in
    let told : TracedView = record { core = c.tell.new.core; printer = c.loop-act.traced.printer.bytes } in
    let here = place_of (view_of c.loop-act.traced) (g.K.Sink.taken c.loop-act.out) (seen c.loop-act.keeper) in
    rw (p.1, p.2)
    (going_ends (flat_map act_inputs c.args.acts.now) (flat_map act_inputs (drop c.loop-act.act-index c.args.acts.now))
    (place_of (view_of c.args.traced.now) (g.K.Sink.taken c.args.out.now) (seen c.args.keeper.now)) here
    (place_of told (g.K.Sink.taken c.loop-act.out) (seen c.loop-act.keeper)) c.loop-act.invariant.going refl (took_nothing (seen c.loop-act.keeper)))

pub returns-in_err-take_act-clause-takes : goal.returns-in_err-take_act-clause-takes
returns-in_err-take_act-clause-takes g c =
    let p = err_from_is_err_and c.from_residual-in_err-take_act.result c.from_residual-in_err-take_act.ensures.1 in
    let a = place_of (view_of c.args.traced.now) (g.K.Sink.taken c.args.out.now) (seen_by g.P.Keeper.held g.P.Keeper.TellsCrash g.P.Keeper.moment g.P.Keeper.MayLeave c.args.keeper.now) in
    let told : TracedView = record { core = c.tell.new.core; printer = c.loop-act.traced.printer.bytes } in
    let ok = c.in_ok-tell.ensures in
    let same = same_place (view_of c.loop-act.traced) told (g.K.Sink.taken c.loop-act.out) (seen_by g.P.Keeper.held g.P.Keeper.TellsCrash g.P.Keeper.moment g.P.Keeper.MayLeave c.loop-act.keeper) ok.same refl in
    let left = flat_map act_inputs (drop c.loop-act.act-index c.args.acts.now) in
    rw (p.1, p.2)
    (going_stops _ (flat_map act_inputs c.args.acts.now) left (act_inputs c.act-item.result) (flat_map act_inputs (drop (c.loop-act.act-index + 1) c.args.acts.now)) a
    (place_of told (g.K.Sink.taken c.loop-act.out) (seen_by g.P.Keeper.held g.P.Keeper.TellsCrash g.P.Keeper.moment g.P.Keeper.MayLeave c.loop-act.keeper)) (place_of (view_of c.take_act.new.traced) (g.K.Sink.taken c.take_act.new.out) (seen_by g.P.Keeper.held g.P.Keeper.TellsCrash g.P.Keeper.moment g.P.Keeper.MayLeave c.take_act.new.keeper))
    (act_left c.args.acts.now c.loop-act.act-index c.act-item.result c.loop-act-test.true c.act-item.is)
    (subst (Going (flat_map act_inputs c.args.acts.now) left a) same c.loop-act.invariant.going) c.in_err-take_act.ensures.takes)

pub loop-act-preserved : goal.loop-act-preserved
loop-act-preserved g c =
    let a = place_of (view_of c.args.traced.now) (g.K.Sink.taken c.args.out.now) (seen_by g.P.Keeper.held g.P.Keeper.TellsCrash g.P.Keeper.moment g.P.Keeper.MayLeave c.args.keeper.now) in
    let told : TracedView = record { core = c.tell.new.core; printer = c.loop-act.traced.printer.bytes } in
    let ok = c.in_ok-tell.ensures in
    let core = c.loop-act.traced.core in
    let takes = c.in_ok-take_act.ensures.takes in
    let same = same_place (view_of c.loop-act.traced) told (g.K.Sink.taken c.loop-act.out) (seen_by g.P.Keeper.held g.P.Keeper.TellsCrash g.P.Keeper.moment g.P.Keeper.MayLeave c.loop-act.keeper) ok.same refl in
    let left = flat_map act_inputs (drop c.loop-act.act-index c.args.acts.now) in
    record {
      going =
          going_on (flat_map act_inputs c.args.acts.now) left (act_inputs c.act-item.result) (flat_map act_inputs (drop (c.loop-act.act-index + 1) c.args.acts.now)) a
          (place_of told (g.K.Sink.taken c.loop-act.out) (seen_by g.P.Keeper.held g.P.Keeper.TellsCrash g.P.Keeper.moment g.P.Keeper.MayLeave c.loop-act.keeper)) (place_of (view_of c.take_act.new.traced) (g.K.Sink.taken c.take_act.new.out) (seen_by g.P.Keeper.held g.P.Keeper.TellsCrash g.P.Keeper.moment g.P.Keeper.MayLeave c.take_act.new.keeper))
          (act_left c.args.acts.now c.loop-act.act-index c.act-item.result c.loop-act-test.true c.act-item.is)
          (subst (Going (flat_map act_inputs c.args.acts.now) left a) same c.loop-act.invariant.going) takes;
      told =
          told_on core.config c.take_act.new.traced.core.config core.policy c.take_act.new.traced.core.policy core.state c.take_act.new.traced.core.state c.args.acts.now c.loop-act.act-index c.act-item.result
          c.loop-act.parts.items c.tell.new.parts.items c.loop-act-test.true c.act-item.is ok.told (takes.config ∙ ok.same.config) (takes.policy ∙ ok.same.policy)
          (takes.state ∙ after_same core.config c.tell.new.core.config core.policy c.tell.new.core.policy core.state c.tell.new.core.state (act_inputs c.act-item.result) ok.same.config ok.same.policy ok.same.state)
          ∙ c.loop-act.invariant.told;
      heard = told_alike (told_to c.tell.new.core.readers) (told_to c.take_act.new.traced.core.readers) 1 c.tell.new.parts.items c.in_ok-take_act.ensures.still ok.heard;
      count = ap length ok.told ∙ told_length core.state c.act-item.result 1 c.loop-act.parts.items ∙ c.loop-act.invariant.count;
      keeper = c.in_ok-take_act.ensures.keeper ∙ c.loop-act.invariant.keeper;
      sink = c.in_ok-take_act.ensures.sink ∙ c.loop-act.invariant.sink;
    }

pub returns-clause-takes : goal.returns-clause-takes
returns-clause-takes g c =
    gone _ (flat_map act_inputs (drop c.loop-act.act-index c.args.acts.now)) _ _ (acts_left c.args.acts.now c.loop-act.act-index c.loop-act-test.false) c.loop-act.invariant.going

pub returns-clause-told : goal.returns-clause-told
returns-clause-told g c =
    let core = c.loop-act.traced.core in
    sym (told_by_none core.config core.policy core.state 1 c.loop-act.parts.items)
    ∙ ap (λ acts. told_from core.config core.policy core.state acts 1 c.loop-act.parts.items) (sym (drop_of_length-le c.args.acts.now c.loop-act-test.false))
    ∙ c.loop-act.invariant.told

pub returns-clause-heard : goal.returns-clause-heard
returns-clause-heard g c = c.loop-act.invariant.heard
