use Rattle.std.proofs.Common.{sym}
use Rattle.std.proofs.lemmas.Result.{on_ok_weaker}
use Rattle.init_machine.specs.Step.{step, settle}
use Rattle.machine_parts.proofs.Doing.{does_then, does_no_more}
use Rattle.init_core.proofs.step.step.Goals as goal

pub returns-then-is_some-clause-done : goal.returns-then-is_some-clause-done
unfolding step
returns-then-is_some-clause-done g c = does_no_more g.met.O.Outputs.joins settle c.in_ok-respond.ensures.done (sym c.if-is_some.ensures)

pub returns-clause-done : goal.returns-clause-done
unfolding step
returns-clause-done g c = on_ok_weaker c.settle.result (does_then g.met.O.Outputs.joins (λ rules now. settle now) c.in_ok-respond.ensures.done (sym c.if-is_some.ensures)) c.settle.ensures.done
