use Rattle.std.proofs.Common.{◌≡◌, length}
use Rattle.rc_parse.specs.Lines.{sections}
use Rattle.rc_parse.specs.internal.Adding.{from_header}
use Rattle.rc_parse.specs.internal.Skimming.{with_skims}
use Rattle.rc_parse.proofs.skimming.skim.Given as goal

-- what is left decides
abbrev pub invariant-loop-header : goal.invariant-loop-header
invariant-loop-header l = record {
  left_decides : with_skims l.file l.skimmed (sections l.lines) ≡ with_skims l.file l.initial.skimmed (sections l.initial.lines);
  headed : from_header l.lines ≡ l.lines;
}

abbrev pub decreases-loop-header : goal.decreases-loop-header
decreases-loop-header l = length l.lines
