-- Command lines (AOSP, init's README, "Commands").
use Rattle.std.specs.Prelude.{ℕ, if◌then◌else◌, List, length, Option, Some, None, Result, Ok, Err}
use Rattle.init_machine.specs.Arity.{permits}
use Rattle.init_machine.specs.Commands.{word_of}
use Rattle.init_machine.specs.declared.action.Command.{Command}
use Rattle.init_machine.specs.declared.diagnostic.DiagKind.{DiagKind}
use Rattle.init_machine.specs.declared.diagnostic.DiagKind.TheVariants.{BadWord, BadArity}
use Rattle.init_machine.specs.declared.word.Word.{Word}
use Rattle.rc_parse.specs.Lines.{first_word, arguments}

-- a word, where it takes so many arguments
abbrev pub permitted : ℕ → Option Word → Result Word DiagKind
permitted count None = Err BadWord
permitted count (Some word) = if permits word count then Ok word else Err BadArity

-- the word of a command with so many arguments
unfoldable pub command_word : List ℕ → ℕ → Result Word DiagKind
command_word text count = permitted count (word_of text)

abbrev pub command_with : List ℕ → ℕ → List (List ℕ) → Result Word DiagKind → Result Command DiagKind
command_with file line args (Ok word) = Ok (record { file = file; line = line; word = word; args = args })
command_with file line args (Err kind) = Err kind

-- the command that these words are, at a line of a file
abbrev pub command_of : List ℕ → ℕ → List (List ℕ) → Result Command DiagKind
command_of file line words =
    command_with file line (arguments words) (command_word (first_word words) (length (arguments words)))
