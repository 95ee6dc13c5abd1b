use Rattle.std.proofs.Common.{◌≡◌, ◌++◌, length}
use Rattle.lint_sources.specs.Excused.{all_taken_elsewhere}
use Rattle.lint_sources.proofs.excuse.lines_taken_elsewhere.Given as goal

-- what is left decides
abbrev pub invariant-loop-first : goal.invariant-loop-first
invariant-loop-first l = l.numbers ++ all_taken_elsewhere l.allowed l.rest ≡ all_taken_elsewhere l.allowed l.lines

abbrev pub decreases-loop-first : goal.decreases-loop-first
decreases-loop-first l = length l.rest
