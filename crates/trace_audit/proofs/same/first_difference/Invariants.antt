use Rattle.std.proofs.Common.{◌≡◌, take}
use Rattle.trace_audit.proofs.same.first_difference.Given as goal

-- the lists are the same so far
abbrev pub invariant-loop-place : goal.invariant-loop-place
invariant-loop-place g l = take l.place l.one ≡ take l.place l.other
