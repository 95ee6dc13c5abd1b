use Rattle.std.proofs.lemmas.Result.{on_ok_weaker}
use Rattle.init_core.proofs.Asks.{answers}
use Rattle.init_core.proofs.client.ask.Goals as goal

pub returns-clause-done : goal.returns-clause-done
returns-clause-done g c =
    let set = c.in_ok-refused.ensures in
    on_ok_weaker c.push.result
    (answers g.met.O.Outputs.joins c.args.parts.now c.set_by.new.parts c.push.new.self c.args.domain.now c.args.name.now c.args.value.now c.bytes.result.now c.in_ok-refused.refused c.is_control.result c.count-count.result c.answer_line.result
    set.done set.refused c.bytes.ensures c.is_control.ensures c.count-count.ensures c.answer_line.ensures)
    c.push.ensures
