use Rattle.std.proofs.lemmas.Result.{on_ok_weaker}
use Rattle.init_core.proofs.Exits.{reaps_on, reaps_over}
use Rattle.init_core.proofs.reaping.reap.Goals as goal

pub returns-then-is_some-clause-done : goal.returns-then-is_some-clause-done
returns-then-is_some-clause-done g c =
    let old = c.args.parts.now in
    reaps_over g.met.O.Outputs.joins old c.end_named.new.parts c.reap.new.self c.args.pid.0 c.args.name.now c.args.how c.in_ok-reap.ensures c.in_ok-end_named.ensures.done c.if-is_some.ensures

pub returns-clause-done : goal.returns-clause-done
returns-clause-done g c =
    let old = c.args.parts.now in
    on_ok_weaker c.release_child.result
    (reaps_on g.met.O.Outputs.joins old c.end_named.new.parts c.release_child.new.parts c.reap.new.self c.args.pid.0 c.args.name.now c.args.how c.in_ok-reap.ensures c.in_ok-end_named.ensures.done c.if-is_some.ensures)
    c.release_child.ensures.done
