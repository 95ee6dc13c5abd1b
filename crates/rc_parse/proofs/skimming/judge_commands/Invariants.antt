use Rattle.std.proofs.Common.{◌≡◌, ◌++◌, length}
use Rattle.rc_parse.specs.internal.Adding.{command_diagnostics}
use Rattle.rc_parse.proofs.skimming.judge_commands.Given as goal

-- what is left decides
abbrev pub invariant-loop-line : goal.invariant-loop-line
invariant-loop-line l = l.diagnostics ++ command_diagnostics l.file l.lines ≡ l.initial.diagnostics ++ command_diagnostics l.file l.initial.lines

abbrev pub decreases-loop-line : goal.decreases-loop-line
decreases-loop-line l = length l.lines
