use Rattle.std.proofs.Common.{ap, ◌∙◌, Err}
use Rattle.std.proofs.lemmas.Result.{on_ok_weaker}
use Rattle.init_core.proofs.Ticks.{not_far, clock_moves, is_far}
use Rattle.init_core.proofs.clock.tick.Goals as goal

pub returns-in-Ok-clause-done : goal.returns-in-Ok-clause-done
returns-in-Ok-clause-done g c =
    let ticked = c.in-Ok.ensures in
    let near = not_far _ c.tick.result c.in-Ok.ended c.in-Ok.is c.tick.ensures.too_far in
    on_ok_weaker c.move_clock.result (clock_moves g.met.O.Outputs.joins c.args.parts.now c.move_clock.new.parts c.tick.new.self c.in-Ok.ended c.args.ms near ticked.ok ticked.reaped) c.move_clock.ensures.done

pub returns-in-Err-TooFar-clause-done : goal.returns-in-Err-TooFar-clause-done
returns-in-Err-TooFar-clause-done g c =
    let far = c.tick.ensures.too_far.0 (c.in-Err-TooFar.is ∙ ap (λ why. Err why) c.in-Err-TooFar.field-0-is) in
    on_ok_weaker c.push.result (is_far g.met.O.Outputs.joins c.args.parts.now c.tick.new.self c.push.new.self c.args.ms far c.in-Err-TooFar.ensures.err) c.push.ensures
