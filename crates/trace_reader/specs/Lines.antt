-- Lines, by their fields.
use Rattle.std.specs.Prelude.{ℕ, if◌then◌else◌, List, [], ◌∷◌, codes, Option, Some, None}
use Rattle.std.specs.Option.{option_map}
use Rattle.std.specs.Str.{bytes_eq}
use Rattle.init_base.specs.Quoted.{unquoted}
use Rattle.init_machine.specs.declared.diagnostic.DiagKind.{DiagKind}
use Rattle.init_machine.specs.declared.diagnostic.Diagnostic.{Diagnostic}
use Rattle.init_machine.specs.declared.input.Input.{Input}
use Rattle.init_machine.specs.declared.input.Input.TheVariants as input
use Rattle.init_machine.specs.declared.report.Reading.{Reading}
use Rattle.init_machine.specs.declared.report.Reading.TheVariants as reading
use Rattle.script_lang.specs.Statements.{status_in}
use Rattle.trace_reader.specs.Outputs.{output_in, output_named}
use Rattle.trace_reader.specs.Reading.{four, lone, only, pair_of, three, two}
use Rattle.trace_reader.specs.Words.{kind_in, large_in, serial_in, small_in}
use Rattle.trace_reader.specs.declared.line.Line.{Line}
use Rattle.trace_reader.specs.declared.line.Line.TheVariants as line
use Rattle.trace_reader.specs.declared.output_word.OutputWord.{OutputWord}

-- ---- readings

abbrev pub found_of : List (List ℕ) → Option Reading
found_of args = three (λ name number value. reading.Found name number value) unquoted large_in unquoted args

abbrev pub absent_of : List (List ℕ) → Option Reading
absent_of args = two (λ name number. reading.Absent name number) unquoted large_in args

abbrev pub again_of : List (List ℕ) → Option Reading
again_of args = four (λ name number first second. reading.Again name number first second) unquoted large_in serial_in serial_in args

abbrev pub reading_of : List ℕ → List (List ℕ) → Option Reading
reading_of word args =
    if bytes_eq word (codes "found") then found_of args
    else if bytes_eq word (codes "absent") then absent_of args
    else if bytes_eq word (codes "again") then again_of args
    else if bytes_eq word (codes "synced") then option_map (λ number. reading.Synced number) (only large_in args)
    else if bytes_eq word (codes "caught") then option_map (λ number. reading.Caught number) (only large_in args)
    else None

-- ---- lines that no space begins

abbrev pub tick_of : List (List ℕ) → Option Input
tick_of args = option_map (λ ms. input.Tick ms) (only large_in args)

abbrev pub exit_of : List (List ℕ) → Option Input
exit_of args = two (λ name status. input.Exit name status) unquoted status_in args

abbrev pub file_of : List (List ℕ) → Option Input
file_of args = option_map (λ texts. input.File texts.0 texts.1) (pair_of unquoted unquoted args)

abbrev pub set_of : List (List ℕ) → Option Input
set_of args = three (λ who name value. input.Set (record { 0 = who }) name value) small_in unquoted unquoted args

abbrev pub input_of : List ℕ → List (List ℕ) → Option Input
input_of word args =
    if bytes_eq word (codes "next") then lone input.Next args
    else if bytes_eq word (codes "set") then set_of args
    else if bytes_eq word (codes "tick") then tick_of args
    else if bytes_eq word (codes "exit") then exit_of args
    else if bytes_eq word (codes "file") then file_of args
    else if bytes_eq word (codes "boot") then lone input.Boot args
    else None

abbrev pub diagnostic : List ℕ → ℕ → DiagKind → Diagnostic
diagnostic file number kind = record { file = file; line = number; kind = kind }

abbrev pub diagnostic_of : List (List ℕ) → Option Diagnostic
diagnostic_of args = three diagnostic unquoted small_in kind_in args

abbrev pub client_of : List (List ℕ) → Option Line
client_of args = three (λ id name domain. line.Client id name domain) large_in unquoted unquoted args

-- ---- lines

-- a line that a space begins, by the fields behind it
abbrev pub told_inside : Option OutputWord → List ℕ → List (List ℕ) → Option Line
told_inside (Some known) word args = option_map (λ output. line.Output output) (output_in known args)
told_inside None word args = option_map (λ reading. line.Reading reading) (reading_of word args)

abbrev pub inner_of : List (List ℕ) → Option Line
inner_of [] = None
inner_of (word ∷ args) = told_inside (output_named word) word args

-- another line, by its first word and the fields behind it
abbrev pub head_of : List ℕ → List (List ℕ) → Option Line
head_of word args =
    if bytes_eq word (codes "diag") then option_map (λ diagnostic. line.Diagnostic diagnostic) (diagnostic_of args)
    else if bytes_eq word (codes "client") then client_of args
    else option_map (λ input. line.Head input) (input_of word args)

abbrev pub line_of : List (List ℕ) → Option Line
line_of [] = None
line_of ([] ∷ args) = inner_of args
line_of ((byte ∷ word) ∷ args) = head_of (byte ∷ word) args
