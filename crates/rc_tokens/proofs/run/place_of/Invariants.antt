use Rattle.std.proofs.Common.{◌≡◌, ◌==◌, ◌+◌, drop}
use Rattle.std.specs.List.{position_or_len}
use Rattle.rc_tokens.proofs.run.place_of.Given as goal

abbrev pub invariant-loop-place : goal.invariant-loop-place
invariant-loop-place l = l.place + position_or_len (λ b. b == l.wanted) (drop l.place l.bytes) ≡ position_or_len (λ b. b == l.wanted) l.bytes
