use Rattle.std.proofs.Common.{◌≡◌, ◌++◌, true, drop, map}
use Rattle.std.specs.List.{list_all}
use Rattle.std.specs.Str.{is_utf8}
use Rattle.command_line.proofs.reading.texts_of.Given as goal

-- what is left decides, and is UTF-8
abbrev pub invariant-loop-word : goal.invariant-loop-word
invariant-loop-word l =
    (map (λ text. text.now) l.texts.items ++ drop l.word-index l.words ≡ l.words)
    × (list_all is_utf8 (drop l.word-index l.words) ≡ true)
