use Rattle.std.proofs.Common.{◌≡◌, length}
use Rattle.std.specs.List.{slice_split}
use Rattle.trace_reader.specs.Drafts.{body_report, report_from}
use Rattle.trace_reader.specs.Split.{is_line_feed}
use Rattle.trace_reader.proofs.reader.lines.Given as goal

-- what is left decides
abbrev pub invariant-loop-rest : goal.invariant-loop-rest
invariant-loop-rest l = report_from l.draft (slice_split is_line_feed l.rest) ≡ body_report (slice_split is_line_feed l.body)

abbrev pub decreases-loop-rest : goal.decreases-loop-rest
decreases-loop-rest l = length l.rest
