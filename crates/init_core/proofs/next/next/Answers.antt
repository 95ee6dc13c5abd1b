use Rattle.std.proofs.lemmas.Result.{on_ok_weaker}
use Rattle.init_core.proofs.Nexts.{blocks, is_free}
use Rattle.init_core.proofs.next.next.Goals as goal

pub returns-then-is_some-clause-done : goal.returns-then-is_some-clause-done
returns-then-is_some-clause-done g c = on_ok_weaker c.push.result (blocks g.met.O.Outputs.joins c.args.parts.now c.push.new.self c.if-is_some.ensures) c.push.ensures

pub returns-clause-done : goal.returns-clause-done
returns-clause-done g c = on_ok_weaker c.take_and_run.result (is_free g.met.O.Outputs.joins c.args.parts.now c.take_and_run.new.parts c.if-is_some.ensures) c.take_and_run.ensures.done
