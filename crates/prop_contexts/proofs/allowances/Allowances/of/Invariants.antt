-- The lines that are left make it whole.
use Rattle.std.proofs.Common.{drop}
use Rattle.prop_contexts.proofs.Pairs.{IsLeft}
use Rattle.prop_contexts.proofs.allowances.Allowances.of.Given as goal

abbrev pub invariant-loop-line : goal.invariant-loop-line
invariant-loop-line l = IsLeft l.pairs.keys (drop l.line-index l.fn.lines) l.fn.lines
