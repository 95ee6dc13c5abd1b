use Rattle.std.proofs.Common.{◌≡◌, ◌≤◌, ℕ, Some, length, subst}
use Rattle.std.proofs.lemmas.Result.{err_from_is_err_and}
use Rattle.init_driver.specs.Keeper.{seen_by}
use Rattle.init_driver.specs.Machine.{MachineView, told_to}
use Rattle.init_driver.specs.Seat.{readings_at}
use Rattle.property_service.specs.Record.{log_of, recorded}
use Rattle.init_driver.proofs.Done.{recorded_from}
use Rattle.init_driver.proofs.Texts.{all_done}
use Rattle.init_driver.proofs.running.drive_whole.Goals as goal

pub returns-in_err-finish-in-Ok-clause-leaves : goal.returns-in_err-finish-in-Ok-clause-leaves
returns-in_err-finish-in-Ok-clause-leaves g c =
    let p = err_from_is_err_and c.from_residual.result c.from_residual.ensures.1 in
    let core = c.args.traced.core in
    let seen = seen_by g.P.Keeper.held g.P.Keeper.TellsCrash g.P.Keeper.moment g.P.Keeper.MayLeave in
    let leaves = c.in-Ok.ensures.leaves in
    rw (p.1, p.2)
    (all_done core.config core.policy core.state c.args.diagnostics.now c.args.script.now (g.K.Sink.taken c.args.out.now) (g.K.Sink.taken c.drive.new.out) (seen c.args.keeper.now) (seen c.drive.new.keeper) leaves.0 leaves.1)

pub returns-in_ok-finish-in-Ok-clause-seat : goal.returns-in_ok-finish-in-Ok-clause-seat
returns-in_ok-finish-in-Ok-clause-seat g c =
    let view = c.in_ok-finish-in-Ok.field-0.view in
    let ok = c.in_ok-finish-in-Ok.ensures in
    let same = c.into_core.ensures in
    recorded_from c.args.traced.core c.drive.new.traced.core c.args.diagnostics.now c.args.script.now view c.requires.domains c.requires.begun c.in-Ok.ensures.done
    (subst (λ (m : MachineView). view.opening ≡ Some (recorded m.desk.opening)) same ok.opening)
    (subst (λ (m : MachineView). view.log ≡ log_of m.desk.history) same ok.log)
    (subst (λ (m : MachineView). (who : ℕ) → who ≤ length m.config.domains → readings_at view who ≡ told_to m.readers who) same ok.told)
