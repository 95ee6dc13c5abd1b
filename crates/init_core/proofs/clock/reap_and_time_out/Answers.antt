use Rattle.std.proofs.Common.{sym}
use Rattle.std.proofs.lemmas.Result.{on_ok_weaker}
use Rattle.init_machine.specs.Step.{time_out}
use Rattle.machine_parts.specs.Parts.{rules_of}
use Rattle.machine_parts.proofs.Doing.{does_then, does_no_more}
use Rattle.init_core.proofs.clock.reap_and_time_out.Goals as goal

pub returns-then-is_some-clause-done : goal.returns-then-is_some-clause-done
returns-then-is_some-clause-done g c = does_no_more g.met.O.Outputs.joins (time_out (rules_of c.args.parts.now)) c.in_ok-reap_each.ensures.done (sym c.if-is_some.ensures)

pub returns-clause-done : goal.returns-clause-done
returns-clause-done g c = on_ok_weaker c.time_out.result (does_then g.met.O.Outputs.joins (λ rules. time_out rules) c.in_ok-reap_each.ensures.done (sym c.if-is_some.ensures)) c.time_out.ensures.done
