use Rattle.std.proofs.Common.{ap, ◌∙◌}
use Rattle.std.specs.List.{list_any}
use Rattle.std.specs.Str.{bytes_eq}
use Rattle.script_lang.proofs.Orders.{plan_fits, plan_added, ask_fits}
use Rattle.script_lang.proofs.order.Order.admits.Goals as goal

pub returns-in_ok-insert-in-Plan-clause-answer : goal.returns-in_ok-insert-in-Plan-clause-answer
returns-in_ok-insert-in-Plan-clause-answer c before seen =
    rw c.in-Plan.is
    (plan_fits c.args.self.now before c.in-Plan.plan c.bytes.result.now c.in_ok-insert-in-Plan.field-0 seen c.if-not-self-2.true c.bytes.ensures c.in_ok-insert-in-Plan.ensures.added)

pub returns-in_ok-insert-in-Plan-clause-added : goal.returns-in_ok-insert-in-Plan-clause-added
returns-in_ok-insert-in-Plan-clause-added c before seen new =
    rw c.in-Plan.is
    (plan_added c.args.self.now c.insert.new.self before c.in-Plan.plan c.bytes.result.now seen c.bytes.ensures c.in_ok-insert-in-Plan.ensures.updates.0)

pub returns-in-Client-clause-answer : goal.returns-in-Client-clause-answer
returns-in-Client-clause-answer c = rw c.in-Client.is c.admits_client.ensures.answer

pub returns-in-Client-clause-added : goal.returns-in-Client-clause-added
returns-in-Client-clause-added c = rw c.in-Client.is c.admits_client.ensures.added

pub returns-in-Ask-clause-answer : goal.returns-in-Ask-clause-answer
returns-in-Ask-clause-answer c before seen =
    rw c.in-Ask.is
    (c.has_name.ensures ∙ ap (λ name. list_any (λ other. bytes_eq other.now name) c.args.self.now.names.items) c.bytes-in-Ask.ensures
    ∙ ask_fits c.args.self.now before c.in-Ask.name c.in-Ask.ask seen)
