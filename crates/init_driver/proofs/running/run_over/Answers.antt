use Rattle.std.proofs.Common.{subst}
use Rattle.std.proofs.lemmas.Result.{err_from_is_err_and}
use Rattle.init_core.specs.Core.{opening_of}
use Rattle.init_machine.specs.State.{first_state}
use Rattle.init_driver.specs.Keeper.{seen_by}
use Rattle.init_driver.specs.Run.{Leaves}
use Rattle.init_driver.proofs.Done.{recorded_first}
use Rattle.init_driver.proofs.Reached.{begins_with, due_opened, reached_first}
use Rattle.init_driver.proofs.Texts.{nothing_left}
use Rattle.init_driver.proofs.running.run_over.Goals as goal

pub returns-in_err-core-clause-leaves : goal.returns-in_err-core-clause-leaves
returns-in_err-core-clause-leaves g c =
    let p = err_from_is_err_and c.from_residual.result c.from_residual.ensures.1 in
    let seen = seen_by g.P.Keeper.held g.P.Keeper.TellsCrash g.P.Keeper.moment g.P.Keeper.MayLeave c.args.keeper.now in
    rw (p.1, p.2) (nothing_left (opening_of c.args.setup.config c.args.setup.policy c.args.script.now.words) c.args.setup.diagnostics c.args.script.now (g.K.Sink.taken c.args.out.now) seen)

pub drive_whole-requires-clause-reached : goal.drive_whole-requires-clause-reached
drive_whole-requires-clause-reached g c =
    let setup = c.args.setup in
    let ok = c.in_ok-core.ensures in
    reached_first setup.config c.in_ok-core.core.config setup.policy c.in_ok-core.core.policy c.args.seat.view.words c.in_ok-core.core.state c.requires.config ok.config ok.policy ok.state

pub returns-clause-leaves : goal.returns-clause-leaves
returns-clause-leaves g c =
    let setup = c.args.setup in
    let ok = c.in_ok-core.ensures in
    let core = c.in_ok-core.core in
    let seen = seen_by g.P.Keeper.held g.P.Keeper.TellsCrash g.P.Keeper.moment g.P.Keeper.MayLeave in
    subst (Leaves c.drive_whole.result (g.K.Sink.taken c.args.out.now) (g.K.Sink.taken c.drive_whole.new.out) (seen c.args.keeper.now) (seen c.drive_whole.new.keeper))
    (due_opened setup.config core.config setup.policy core.policy c.args.script.now.words core.state setup.diagnostics c.args.script.now ok.config ok.policy
    (begins_with (λ w. first_state (opening_of setup.config setup.policy w)) _ _ _ c.requires.seat.1 ok.state)) c.drive_whole.ensures.leaves

pub returns-clause-seat : goal.returns-clause-seat
returns-clause-seat g c =
    let setup = c.args.setup in
    let ok = c.in_ok-core.ensures in
    let core = c.in_ok-core.core in
    recorded_first c.drive_whole.result setup.config core.config setup.policy core.policy c.args.script.now.words core.state setup.diagnostics c.args.script.now core.desk.opening ok.config ok.policy
    (begins_with (λ w. first_state (opening_of setup.config setup.policy w)) _ _ _ c.requires.seat.1 ok.state)
    (begins_with (opening_of setup.config setup.policy) _ _ _ c.requires.seat.1 ok.opening) c.drive_whole.ensures.seat
