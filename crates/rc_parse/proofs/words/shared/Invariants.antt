use Rattle.std.proofs.Common.{◌≡◌, ◌++◌, drop}
use Rattle.rc_parse.proofs.words.shared.Given as goal

-- what is left decides
abbrev pub invariant-loop-word : goal.invariant-loop-word
invariant-loop-word l = l.list ++ drop l.word-index l.words ≡ l.words
