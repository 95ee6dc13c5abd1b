use Rattle.std.proofs.lemmas.Result.{on_ok_weaker}
use Rattle.init_core.proofs.Asks.{boots_first, no_boot_yet}
use Rattle.init_core.proofs.boot.first_boot.Goals as goal

pub queue_boot-requires : goal.queue_boot-requires
queue_boot-requires g c = no_boot_yet g.met.O.Outputs.joins c.args.parts.now c.set_pairs.new.parts c.in_ok-last.last c.requires c.in_ok-set_pairs.ensures.done

pub returns-clause-done : goal.returns-clause-done
returns-clause-done g c =
    on_ok_weaker c.queue_boot.result
    (boots_first g.met.O.Outputs.joins c.args.parts.now c.set_pairs.new.parts c.queue_boot.new.parts c.args.pairs.now c.in_ok-last.last c.in_ok-last.ensures c.in_ok-set_pairs.ensures.done)
    c.queue_boot.ensures.done
