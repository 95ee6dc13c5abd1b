use Rattle.std.proofs.Common.{◌≡◌, ◌++◌, length}
use Rattle.rc_parse.specs.internal.Adding.{command_diagnostics}
use Rattle.rc_parse.specs.Sections.{commands_of}
use Rattle.rc_parse.proofs.action.commands.Given as goal

-- what is left decides
abbrev pub invariant-loop-line : goal.invariant-loop-line
invariant-loop-line l = record {
  commands : l.commands ++ commands_of l.file l.lines ≡ commands_of l.file l.initial.lines;
  diagnostics : l.diagnostics ++ command_diagnostics l.file l.lines ≡ l.initial.diagnostics ++ command_diagnostics l.file l.initial.lines;
}

abbrev pub decreases-loop-line : goal.decreases-loop-line
decreases-loop-line l = length l.lines
