use Rattle.std.proofs.Common.{length}
use Rattle.trace_audit.proofs.Gathering.{gathered_on}
use Rattle.trace_audit.proofs.taking.gather.Goals as goal

pub returns : goal.returns
returns c =
    gathered_on c.add.result (length c.args.script.now.clients) c.args.entry.now c.args.told.now c.add.new.self c.add.ensures.sets c.add.ensures.requests
