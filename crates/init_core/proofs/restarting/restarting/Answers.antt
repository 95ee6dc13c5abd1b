use Rattle.std.proofs.lemmas.Result.{on_ok_weaker}
use Rattle.init_core.proofs.Commands.{same_some, not_both, restarts_on, restarts_over}
use Rattle.init_core.proofs.restarting.restarting.Goals as goal

pub returns-in_default-clause-done : goal.returns-in_default-clause-done
returns-in_default-clause-done g c = λ service found. absurd (not_both _ service c.in_default.ensures found)

pub returns-then-is_some-clause-done : goal.returns-then-is_some-clause-done
returns-then-is_some-clause-done g c = λ service found.
    restarts_over g.met.O.Outputs.joins c.args.parts.now c.tell.new.parts service c.in-Some.service.now c.in_ok-name.name c.in_ok-name.ensures
    (same_some _ _ service c.in-Some.ensures found) c.in_ok-tell.ensures.done c.if-is_some.ensures

pub returns-clause-done : goal.returns-clause-done
returns-clause-done g c = λ service found.
    on_ok_weaker c.run_onrestart.result
    (restarts_on g.met.O.Outputs.joins c.args.parts.now c.tell.new.parts c.run_onrestart.new.parts c.args.at service c.in-Some.service.now c.in_ok-name.name c.in_ok-name.ensures
    (same_some _ _ service c.in-Some.ensures found) found c.in_ok-tell.ensures.done c.if-is_some.ensures)
    c.run_onrestart.ensures.done
