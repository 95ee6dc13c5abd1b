use Rattle.std.proofs.Common.{ap}
use Rattle.std.specs.Prelude.{is_some}
use Rattle.trace_causes.proofs.Readings.{is_unread, told_if}
use Rattle.trace_causes.proofs.bad_line.stop_in.Goals as goal

pub returns-in_default : goal.returns-in_default
returns-in_default c = is_unread c.args.text.now (ap is_some c.in_default.ensures.all)

pub returns : goal.returns
returns c = told_if c.args.text.now _ c.stop_among-stop.result c.in-Some.ensures.all c.stop_among-stop.ensures
