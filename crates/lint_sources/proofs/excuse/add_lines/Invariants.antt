use Rattle.std.proofs.Common.{◌≡◌, ◌++◌, length}
use Rattle.lint_sources.specs.internal.Steps.{is_excused_at}
use Rattle.lint_sources.specs.Excused.{numbers_of}
use Rattle.lint_sources.proofs.excuse.add_lines.Given as goal

-- what is left decides
abbrev pub invariant-loop-line : goal.invariant-loop-line
invariant-loop-line l =
    l.numbers ++ numbers_of (is_excused_at l.part l.allowed) l.lines
    ≡ l.initial.numbers ++ numbers_of (is_excused_at l.part l.allowed) l.initial.lines

abbrev pub decreases-loop-line : goal.decreases-loop-line
decreases-loop-line l = length l.lines
