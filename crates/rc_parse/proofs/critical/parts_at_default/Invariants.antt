use Rattle.std.proofs.Common.{◌≡◌, ℕ, ◌<◌, false}
use Rattle.rc_parse.proofs.Windows.{begins_at}
use Rattle.rc_parse.proofs.critical.parts_at_default.Given as goal

abbrev pub invariant-loop-place : goal.invariant-loop-place
invariant-loop-place l = (k : ℕ) → k < l.place → begins_at l.text k ≡ false
