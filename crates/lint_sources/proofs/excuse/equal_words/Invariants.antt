use Rattle.std.proofs.Common.{◌≡◌, ◌++◌, ◌∷◌, [], drop, map}
use Rattle.lint_sources.specs.Excused.{as_equal}
use Rattle.lint_sources.proofs.excuse.equal_words.Given as goal

-- what is left decides
abbrev pub invariant-loop-word : goal.invariant-loop-word
invariant-loop-word l = l.equal ++ map as_equal (drop l.word-index l.words) ≡ (111 ∷ 110 ∷ []) ∷ map as_equal l.words
