use Rattle.std.proofs.Common.{◌-◌, ◌<◌, ◌≤◌}
use Rattle.init_base.specs.Lines.{lines_of}
use Rattle.trace_causes.specs.Faults.{ended_front, IsNoReports, IsReports}
use Rattle.trace_causes.proofs.bad_line.bad_up_to.Given as goal

-- the first bad line is between
abbrev pub invariant-loop-good : goal.invariant-loop-good
invariant-loop-good l = record {
  order : l.good < l.bad;
  among : l.bad ≤ l.count;
  good : IsReports (ended_front (lines_of l.text) l.good);
  bad : IsNoReports (ended_front (lines_of l.text) l.bad);
}

abbrev pub decreases-loop-good : goal.decreases-loop-good
decreases-loop-good l = l.bad - l.good
