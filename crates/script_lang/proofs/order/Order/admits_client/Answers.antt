use Rattle.std.proofs.Common.{◌∙◌}
use Rattle.script_lang.proofs.Orders.{client_fits}
use Rattle.script_lang.proofs.order.Order.admits_client.Goals as goal

pub returns-then-not-has_room_for-clause-answer : goal.returns-then-not-has_room_for-clause-answer
returns-then-not-has_room_for-clause-answer c before seen =
    c.if-not-has_room_for.ensures ∙ client_fits c.args.self.now before c.args.client.now c.bytes-name.result.now seen c.bytes-name.ensures

pub returns-clause-answer : goal.returns-clause-answer
returns-clause-answer c before seen =
    c.if-not-has_room_for.ensures ∙ client_fits c.args.self.now before c.args.client.now c.bytes-name.result.now seen c.bytes-name.ensures
