-- Which command a text names.
use Rattle.std.specs.Prelude.{ℕ, List, Option}
use Rattle.std.specs.List.{find}
use Rattle.std.specs.Str.{bytes_eq}
use Rattle.init_machine.specs.WordTexts.{word_text}
use Rattle.init_machine.specs.declared.word.Word.{Word}
use Rattle.init_machine.specs.declared.word.TheConstants.{WORDS}

-- the command with this text: none where no command has it
abbrev pub word_of : List ℕ → Option Word
word_of text = find (λ word. bytes_eq (word_text word) text) WORDS
