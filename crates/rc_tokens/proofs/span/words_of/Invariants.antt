use Rattle.std.proofs.Common.{◌≡◌, ◌++◌, IsTrue, length, drop}
use Rattle.std.specs.List.{list_all}
use Rattle.rc_tokens.specs.internal.Ranges.{is_within, words_at}
use Rattle.rc_tokens.proofs.span.words_of.Given as goal

-- what is left decides
abbrev pub invariant-loop-range : goal.invariant-loop-range
invariant-loop-range l = record {
  left_decides : l.words ++ words_at l.buffer (drop l.range-index l.ranges) ≡ words_at l.buffer l.ranges;
  left_within : IsTrue (list_all (is_within (length l.buffer)) (drop l.range-index l.ranges));
}
