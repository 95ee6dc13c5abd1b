use Rattle.std.proofs.Common.{◌≡◌, drop}
use Rattle.trace_audit.specs.Lists.{rises}
use Rattle.trace_audit.proofs.order.seconds_rise.Given as goal

-- what is left decides
abbrev pub invariant-loop-place : goal.invariant-loop-place
invariant-loop-place l = rises (drop l.place l.readings) ≡ rises l.readings
