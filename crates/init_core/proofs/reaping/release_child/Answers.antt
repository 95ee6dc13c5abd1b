use Rattle.machine_parts.proofs.Doing.{on_ok_both}
use Rattle.init_core.proofs.Exits.{releases}
use Rattle.init_core.proofs.reaping.release_child.Goals as goal

pub returns-clause-done : goal.returns-clause-done
returns-clause-done g c =
    on_ok_both c.release.result
    (releases g.met.O.Outputs.joins c.args.parts.now c.release.new.waits c.release.new.outputs c.is_awaited-ends.result c.args.pid.0 c.is_awaited-ends.ensures)
    c.release.ensures.waits c.release.ensures.lines
