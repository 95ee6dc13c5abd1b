use Rattle.std.proofs.Common.{◌≡◌, ◌++◌, ◌-◌, ◌≤◌, drop, length}
use Rattle.std.specs.List.{flat_map}
use Rattle.init_trace.specs.Quoted.{quoted_byte}
use Rattle.init_trace.proofs.quote.quoted_runs.Given as goal

-- what is left decides
abbrev pub invariant-loop-at : goal.invariant-loop-at
invariant-loop-at l = record {
  left : l.page.items ++ flat_map quoted_byte (drop l.at l.bytes) ≡ l.initial.page.items ++ flat_map quoted_byte l.bytes;
  within : l.at ≤ length l.bytes;
}

abbrev pub decreases-loop-at : goal.decreases-loop-at
decreases-loop-at l = length l.bytes - l.at
