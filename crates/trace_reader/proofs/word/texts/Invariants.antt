use Rattle.std.proofs.Common.{◌≡◌, ◌++◌, List, ℕ, length}
use Rattle.std.specs.Option.{option_map}
use Rattle.trace_reader.specs.Words.{texts_in}
use Rattle.trace_reader.proofs.word.texts.Given as goal

-- what is left decides
abbrev pub invariant-loop-word : goal.invariant-loop-word
invariant-loop-word l = option_map (λ (more : List (List ℕ)). l.texts ++ more) (texts_in l.fields) ≡ texts_in l.initial.fields

abbrev pub decreases-loop-word : goal.decreases-loop-word
decreases-loop-word l = length l.fields
