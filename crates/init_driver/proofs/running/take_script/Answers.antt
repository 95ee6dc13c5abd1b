use Rattle.std.proofs.Common.{◌∙◌, [], ◌∷◌, length, sym, ap, subst, arith}
use Rattle.std.specs.List.{flat_map}
use Rattle.std.proofs.lemmas.List.{length-map}
use Rattle.std.proofs.lemmas.Result.{err_from_is_err_and}
use Rattle.init_machine.specs.History.{after_from}
use Rattle.init_machine.specs.declared.config.Config.{Config}
use Rattle.init_machine.specs.declared.input.Input.TheVariants as Input
use Rattle.script_lang.specs.Inputs.{act_inputs, InOrder}
use Rattle.init_driver.specs.Course.{place_of, view_of}
use Rattle.init_driver.specs.Keeper.{seen_by}
use Rattle.init_driver.specs.Machine.{told_to}
use Rattle.init_driver.specs.Seat.{AreTold}
use Rattle.init_driver.proofs.Courses.{leads_then, takes_none, untaken_less, untaken_then}
use Rattle.init_driver.proofs.Reached.{reached_more}
use Rattle.init_driver.proofs.Told.{told_fresh, told_of_opened}
use Rattle.init_driver.proofs.running.take_script.Goals as goal

pub returns-in_err-parts-clause-takes : goal.returns-in_err-parts-clause-takes
returns-in_err-parts-clause-takes g c =
    let p = err_from_is_err_and c.from_residual.result c.from_residual.ensures.1 in
    let a = place_of (view_of c.args.traced.now) (g.K.Sink.taken c.args.out.now) (seen_by g.P.Keeper.held g.P.Keeper.TellsCrash g.P.Keeper.moment g.P.Keeper.MayLeave c.args.keeper.now) in
    rw (p.1, p.2) (takes_none (InOrder c.args.script.now) a)

pub returns-in_err-take-clause-takes : goal.returns-in_err-take-clause-takes
returns-in_err-take-clause-takes g c =
    let p = err_from_is_err_and c.from_residual-in_err-take.result c.from_residual-in_err-take.ensures.1 in
    rw (p.1, p.2) (untaken_less _ (Input.Boot ∷ []) (flat_map act_inputs c.args.script.now.acts) _ _ c.in_err-take.ensures.takes)

pub take_acts-requires-clause-reached : goal.take_acts-requires-clause-reached
take_acts-requires-clause-reached g c = reached_more _ _ _ c.in_ok-take.ensures.takes c.requires.reached

pub take_acts-requires-clause-domains : goal.take_acts-requires-clause-domains
take_acts-requires-clause-domains g c =
    let clients = c.args.script.now.clients in
    let many = ap length c.in_ok-parts.ensures ∙ length-map _ _ ∙ ap length c.items.ensures in
    let same = ap (λ (config : Config). length config.domains) c.in_ok-take.ensures.takes.config in
    omega (arith, many, same, c.requires.domains)

pub returns-in_err-take_acts-clause-takes : goal.returns-in_err-take_acts-clause-takes
returns-in_err-take_acts-clause-takes g c =
    let p = err_from_is_err_and c.from_residual-in_err-take_acts.result c.from_residual-in_err-take_acts.ensures.1 in
    rw (p.1, p.2, ← c.items-2.ensures) (untaken_then _ (Input.Boot ∷ []) (flat_map act_inputs c.items-2.result.now) _ _ _ c.in_ok-take.ensures.takes c.in_err-take_acts.ensures.takes)

pub returns-clause-takes : goal.returns-clause-takes
returns-clause-takes g c =
    rw (← c.items-2.ensures) (leads_then (Input.Boot ∷ []) (flat_map act_inputs c.items-2.result.now) _ _ _ c.in_ok-take.ensures.takes c.in_ok-take_acts.ensures.takes)

pub returns-clause-parts : goal.returns-clause-parts
returns-clause-parts g c =
    let core = c.args.traced.now.core in
    let core' = c.take.new.traced.core in
    let takes = c.in_ok-take.ensures.takes in
    told_of_opened core.config core'.config core.policy core'.policy (after_from core.config core.policy core.state (Input.Boot ∷ [])) core'.state c.args.script.now.acts c.items-2.result.now
    c.args.script.now.clients c.items.result.now c.from_vec.result c.in_ok-parts.parts.items (c.from_vec.ensures ∙ c.in_ok-take_acts.ensures.told) c.in_ok-parts.ensures c.items.ensures c.items-2.ensures
    takes.config takes.policy takes.state

pub take_acts-requires-clause-heard : goal.take_acts-requires-clause-heard
take_acts-requires-clause-heard g c =
    let told = told_to c.take.new.traced.core.readers in
    subst (AreTold told 1) (sym c.in_ok-parts.ensures) (told_fresh told 1 c.items.result.now (λ who. c.in_ok-take.ensures.still who ∙ c.requires.fresh who))

pub returns-clause-heard : goal.returns-clause-heard
returns-clause-heard g c = subst (AreTold (told_to c.take_acts.new.traced.core.readers) 1) (sym c.from_vec.ensures) c.in_ok-take_acts.ensures.heard
