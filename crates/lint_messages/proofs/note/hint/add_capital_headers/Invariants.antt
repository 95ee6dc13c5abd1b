use Rattle.std.proofs.Common.{length}
use Rattle.std.specs.Prelude.{⊤}
use Rattle.lint_messages.proofs.note.hint.add_capital_headers.Given as goal

abbrev pub invariant-loop-line : goal.invariant-loop-line
invariant-loop-line l = ⊤

abbrev pub decreases-loop-line : goal.decreases-loop-line
decreases-loop-line l = length l.lines
