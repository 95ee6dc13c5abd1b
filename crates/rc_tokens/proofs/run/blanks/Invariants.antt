use Rattle.std.proofs.Common.{◌≡◌, ◌+◌, not, drop}
use Rattle.std.specs.List.{position_or_len}
use Rattle.rc_tokens.specs.Grammar.{is_blank}
use Rattle.rc_tokens.proofs.run.blanks.Given as goal

abbrev pub invariant-loop-place : goal.invariant-loop-place
invariant-loop-place l = l.place + position_or_len (λ b. not (is_blank b)) (drop l.place l.bytes) ≡ position_or_len (λ b. not (is_blank b)) l.bytes
