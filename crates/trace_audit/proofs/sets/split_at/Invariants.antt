use Rattle.std.proofs.Common.{◌≡◌, ◌+◌, ◌-◌, ◌<◌, ◌≤◌, ℕ, length, get_or}
use Rattle.trace_audit.proofs.sets.split_at.Given as goal

-- those before the lower place are lower than the number, and those from the higher one on aren't
abbrev pub invariant-loop-low : goal.invariant-loop-low
invariant-loop-low l = record {
  order : l.low ≤ l.high;
  within : l.high ≤ length l.places;
  below : (i : ℕ) → l.low ≡ i + 1 → get_or l.places i 0 < l.number;
  above : l.high < length l.places → l.number ≤ get_or l.places l.high 0;
}

abbrev pub decreases-loop-low : goal.decreases-loop-low
decreases-loop-low l = l.high - l.low
