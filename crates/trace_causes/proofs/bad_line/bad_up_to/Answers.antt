use Rattle.std.proofs.Common.{arith}
use Rattle.init_base.specs.Lines.{lines_of}
use Rattle.trace_causes.proofs.Shorter.{first_bad, first_good}
use Rattle.trace_causes.proofs.bad_line.bad_up_to.Goals as goal

pub loop-good-init : goal.loop-good-init
loop-good-init c = record {
  order = c.requires.more;
  among = omega arith;
  good = first_good (lines_of c.args.text.now) c.requires.title;
  bad = c.requires.bad;
}

pub returns : goal.returns
returns c =
    let known = c.loop-good.invariant in
    first_bad c.args.text.now c.args.count c.loop-good.good c.loop-good.bad c.requires.title known.order (omega arith) known.among known.good known.bad
