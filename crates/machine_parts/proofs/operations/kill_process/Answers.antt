-- The kernel kills the process, and that the service is stopping is told.
use Rattle.std.proofs.Common.{refl}
use Rattle.std.proofs.lemmas.Result.{on_ok_weaker}
use Rattle.machine_parts.proofs.Telling.{kills}
use Rattle.machine_parts.proofs.operations.kill_process.Goals as goal

pub returns-clause-done : goal.returns-clause-done
returns-clause-done g c =
    on_ok_weaker c.tell.result
    (kills g.S.PropStore.meaning g.S.PropStore.told g.met.O.Outputs.joins c.args.parts.now _ c.tell.new.parts c.kill.new.self _ c.args.pid c.args.name.now _ c.kill.ensures refl c.in_ok-kill.ensures refl)
    c.tell.ensures.done
