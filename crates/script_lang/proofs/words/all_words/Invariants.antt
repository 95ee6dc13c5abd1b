use Rattle.std.proofs.Common.{◌≡◌, ◌++◌, length}
use Rattle.script_lang.specs.Lines.{words_of}
use Rattle.script_lang.proofs.words.all_words.Given as goal

abbrev pub invariant-loop-word : goal.invariant-loop-word
invariant-loop-word l = l.words ++ l.left ≡ words_of l.line

abbrev pub decreases-loop-word : goal.decreases-loop-word
decreases-loop-word l = length l.left
