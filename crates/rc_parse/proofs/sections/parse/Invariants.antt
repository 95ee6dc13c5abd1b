use Rattle.std.proofs.Common.{◌≡◌, length}
use Rattle.rc_parse.specs.Lines.{sections}
use Rattle.rc_parse.specs.internal.Adding.{from_header, with_sections}
use Rattle.rc_parse.proofs.sections.parse.Given as goal

-- what is left decides
abbrev pub invariant-loop-header : goal.invariant-loop-header
invariant-loop-header l = record {
  left_decides : with_sections l.file l.parsed (sections l.lines) ≡ with_sections l.file l.initial.parsed (sections l.initial.lines);
  headed : from_header l.lines ≡ l.lines;
}

abbrev pub decreases-loop-header : goal.decreases-loop-header
decreases-loop-header l = length l.lines
