use Rattle.std.proofs.Common.{length}
use Rattle.lint_findings.proofs.Fronts.{HasRead}
use Rattle.lint_findings.proofs.reading.read.Given as goal

abbrev pub invariant-loop-rest : goal.invariant-loop-rest
invariant-loop-rest l = HasRead l.bytes l.rows l.rest

abbrev pub decreases-loop-rest : goal.decreases-loop-rest
decreases-loop-rest l = length l.rest
