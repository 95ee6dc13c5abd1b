use Rattle.std.proofs.Common.{sym}
use Rattle.std.proofs.lemmas.Result.{on_ok_weaker}
use Rattle.init_machine.specs.Step.{restart_due}
use Rattle.machine_parts.specs.Parts.{rules_of}
use Rattle.machine_parts.proofs.Doing.{does_then, does_no_more}
use Rattle.init_core.proofs.clock.move_clock.Goals as goal

pub returns-then-is_some-clause-done : goal.returns-then-is_some-clause-done
returns-then-is_some-clause-done g c = does_no_more g.met.O.Outputs.joins (restart_due (rules_of c.args.parts.now)) c.in_ok-reap_and_time_out.ensures.done (sym c.if-is_some.ensures)

pub returns-clause-done : goal.returns-clause-done
returns-clause-done g c = on_ok_weaker c.restart_due.result (does_then g.met.O.Outputs.joins (λ rules. restart_due rules) c.in_ok-reap_and_time_out.ensures.done (sym c.if-is_some.ensures)) c.restart_due.ensures.done
