use Rattle.prop_wire.proofs.Desks.{desk_set}
use Rattle.prop_wire.proofs.desk.DeskLastReplyWireDesk.set_message.Goals as goal

pub returns-in-Ok-clause-set : goal.returns-in-Ok-clause-set
returns-in-Ok-clause-set g c =
    desk_set c.take-back.result.1 c.in-Ok.field-0 c.args.self.now c.take-back.new.self c.args.reader c.take-back.result.0 c.args.message.now c.who.result.0 c.in-Ok-Ok.name c.in-Ok-Ok.value
    c.new-last.result c.take-back.new.outputs c.reply.result c.in-Ok.is c.who.ensures c.in-Ok-Ok.ensures c.in-Ok-Ok.ensures'
    c.take-back.ensures.outputs c.new-last.ensures c.reply.ensures c.take-back.ensures.history c.take-back.ensures.opening c.take-back.ensures.reader c.take-back.ensures.ready
