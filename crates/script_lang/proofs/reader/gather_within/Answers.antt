use Rattle.std.proofs.Common.{arith}
use Rattle.script_lang.specs.Lines.{lines_of}
use Rattle.script_lang.proofs.Gatherings.{gathered_is}
use Rattle.script_lang.proofs.reader.gather_within.Goals as goal

pub returns-then-gathered-gt-MOST_LINES-clause-refused : goal.returns-then-gathered-gt-MOST_LINES-clause-refused
returns-then-gathered-gt-MOST_LINES-clause-refused c =
    let g = gathered_is (lines_of c.args.bytes.now) c.in_ok-gathered.gathered c.in_ok-gathered.ensures in
    (omega arith, omega (arith, g.lines), omega (arith, g.lines, c.from.ensures))

pub returns-then-gathered-gt-MOST_STEPS-clause-refused : goal.returns-then-gathered-gt-MOST_STEPS-clause-refused
returns-then-gathered-gt-MOST_STEPS-clause-refused c =
    let g = gathered_is (lines_of c.args.bytes.now) c.in_ok-gathered.gathered c.in_ok-gathered.ensures in
    (omega arith, omega (arith, g.lines), omega (arith, g.steps), g.steps)
