use Rattle.std.proofs.Common.{◌≡◌, ℕ, ◌<◌, false}
use Rattle.prop_rules.proofs.Defaults.{begins_at}
use Rattle.prop_rules.proofs.piece.default_place.Given as goal

abbrev pub invariant-loop-place : goal.invariant-loop-place
invariant-loop-place l = (k : ℕ) → k < l.place → begins_at l.inside k ≡ false
