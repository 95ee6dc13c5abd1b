use Rattle.std.proofs.Common.{rules}
use Rattle.init_base.proofs.LineEnds.{line_ends, line_open}
use Rattle.init_base.proofs.lines.first_line.Goals as goal

pub returns-in-Some-clause-line : goal.returns-in-Some-clause-line
returns-in-Some-clause-line c = line_ends _ _ (search rules)

pub returns-in-None-clause-line : goal.returns-in-None-clause-line
returns-in-None-clause-line c = line_open _ c.requires (search rules)
