use Rattle.init_core.proofs.Commands.{same_some, not_both, runs_found}
use Rattle.init_core.proofs.restarting.run_at.Goals as goal

pub returns-in_default-clause-done : goal.returns-in_default-clause-done
returns-in_default-clause-done g c = λ command found. absurd (not_both _ command c.in_default.ensures found)

pub returns-clause-done : goal.returns-clause-done
returns-clause-done g c = λ command found.
    runs_found g.S.PropStore.meaning g.S.PropStore.told g.met.O.Outputs.joins c.args.parts.now c.run.new.parts c.run.result c.in_ok-command.command c.in-Some.command.now command c.in_ok-command.ensures
    (same_some _ _ command c.in-Some.ensures found) c.run.ensures.done
