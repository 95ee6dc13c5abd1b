use Rattle.std.proofs.lemmas.Result.{on_ok_weaker}
use Rattle.init_core.proofs.Asks.{boot_queued}
use Rattle.init_core.proofs.boot.queue_boot.Goals as goal

pub returns-clause-done : goal.returns-clause-done
returns-clause-done g c =
    let last = c.in_ok-last.ensures in
    on_ok_weaker c.boot.result (boot_queued g.met.O.Outputs.joins c.args.parts.now c.last_stage.new.store c.boot.new.self c.in_ok-last.last last.same last.told last.stage) c.boot.ensures
