use Rattle.std.proofs.Common.{◌≡◌, ◌++◌, ◌||◌, length}
use Rattle.std.specs.List.{list_any}
use Rattle.rc_parse.specs.internal.Adding.{setting_diagnostics}
use Rattle.rc_parse.specs.Sections.{settings_of}
use Rattle.rc_parse.specs.Services.{is_override}
use Rattle.rc_parse.proofs.skimming.judge_options.Given as goal

-- what is left decides
abbrev pub invariant-loop-line : goal.invariant-loop-line
invariant-loop-line l = record {
  overrides : (l.overrides || list_any is_override (settings_of l.file l.lines)) ≡ list_any is_override (settings_of l.file l.initial.lines);
  diagnostics : l.diagnostics ++ setting_diagnostics l.file l.lines ≡ l.initial.diagnostics ++ setting_diagnostics l.file l.initial.lines;
}

abbrev pub decreases-loop-line : goal.decreases-loop-line
decreases-loop-line l = length l.lines
