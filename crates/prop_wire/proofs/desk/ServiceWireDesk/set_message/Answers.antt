use Rattle.prop_wire.proofs.Desks.{service_same, service_set}
use Rattle.prop_wire.proofs.desk.ServiceWireDesk.set_message.Goals as goal

pub returns-clause-set : goal.returns-clause-set
returns-clause-set g c =
    service_set c.reply_to.result c.args.self.now c.set-back.new.self c.args.reader c.set-back.result.0 c.args.message.now c.bytes.result.now c.bytes-2.result.now c.set-back.result.1
    c.bytes.ensures c.bytes-2.ensures c.reply_to.ensures.reply c.reply_to.ensures.judged c.set-back.ensures.set

pub returns-clause-err : goal.returns-clause-err
returns-clause-err g c =
    service_same c.reply_to.result c.args.self.now c.set-back.new.self c.args.reader c.set-back.result.0 c.set-back.result.1
    c.reply_to.ensures.judged c.set-back.ensures.unchanged c.set-back.ensures.no_memory
