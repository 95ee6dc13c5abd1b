use Rattle.std.proofs.Common.{Some, None, rules, arith}
use Rattle.trace_reader.proofs.Frames.{answer}
use Rattle.trace_reader.proofs.reader.read.Goals as goal

pub returns-in-Ok : goal.returns-in-Ok
returns-in-Ok c = answer c.args.text.now (Some c.in-Ok.report) c.in-Ok.ensures

pub returns-in-Err-Bad : goal.returns-in-Err-Bad
returns-in-Err-Bad c = answer c.args.text.now None (first_of (search rules, grind arith, cc))
