use Rattle.std.proofs.Common.{◌≡◌, ◌++◌, length}
use Rattle.rc_parse.specs.Sections.{orphan_diagnostics}
use Rattle.rc_parse.proofs.imports.add_orphans.Given as goal

-- what is left decides
abbrev pub invariant-loop-line : goal.invariant-loop-line
invariant-loop-line l = l.diagnostics ++ orphan_diagnostics l.file l.lines ≡ l.initial.diagnostics ++ orphan_diagnostics l.file l.initial.lines

abbrev pub decreases-loop-line : goal.decreases-loop-line
decreases-loop-line l = length l.lines
