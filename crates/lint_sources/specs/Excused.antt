-- Which diagnostics are excused: those of words that another init has, and of tests with `!=`.
use Rattle.std.specs.Prelude.{ℕ, ◌-◌, Bool, true, false, not, ◌&&◌, ◌||◌, nat_eq, if◌then◌else◌, List, [], ◌∷◌, ◌++◌, codes, drop, filter, is_ok, map, position, take, Option, Some, None}
use Rattle.std.specs.List.{ends_with, flat_map, list_any}
use Rattle.std.specs.Str.{bytes_eq}
use Rattle.init_base.specs.Tree.{has_name}
use Rattle.init_machine.specs.declared.diagnostic.DiagKind.{DiagKind}
use Rattle.init_machine.specs.declared.diagnostic.DiagKind.TheVariants as kind
use Rattle.init_machine.specs.declared.diagnostic.Diagnostic.{Diagnostic}
use Rattle.rc_parse.specs.Lines.{Section, arguments, first_word, is_on, is_service, sections}
use Rattle.rc_parse.specs.Sections.{header_args}
use Rattle.rc_parse.specs.Triggers.{is_equals_sign, is_on_property, triggers_of}
use Rattle.rc_tokens.specs.Lines.{Line}
use Rattle.lint_sources.specs.NotModelled.{is_command_not_modelled, is_option_not_modelled}
use Rattle.lint_sources.specs.Told.{Told, lines_at}

-- a command that AOSP's init has, or that is allowed
abbrev pub is_excused_command : List (List ℕ) → List ℕ → Bool
is_excused_command allowed word = is_command_not_modelled word || has_name allowed word

-- an option that AOSP's init has, or that is allowed
abbrev pub is_excused_option : List (List ℕ) → List ℕ → Bool
is_excused_option allowed word = is_option_not_modelled word || has_name allowed word

-- a line of an action has a command
abbrev pub is_excused_in_action : List (List ℕ) → Line → Bool
is_excused_in_action allowed line = is_excused_command allowed (first_word line.words)

-- a line of a service has an option, or a command behind `onrestart`
abbrev pub is_excused_in_service : List (List ℕ) → Line → Bool
is_excused_in_service allowed line =
    if bytes_eq (first_word line.words) (codes "onrestart") then is_excused_command allowed (first_word (arguments line.words))
    else is_excused_option allowed (first_word line.words)

-- a text without the `!` before its first `=`, which stands here
abbrev pub without_bang : Option ℕ → List ℕ → List ℕ
without_bang None text = text
without_bang (Some at) text = if ends_with nat_eq (take at text) (codes "!") then take (at - 1) text ++ drop at text else text

-- `property:NAME!=VALUE` read as `property:NAME=VALUE`
abbrev pub as_equal : List ℕ → List ℕ
as_equal word = if is_on_property word then without_bang (position is_equals_sign word) word else word

-- the number of a line that passes a test
abbrev pub number_if : (Line → Bool) → Line → List ℕ
number_if test line = if test line then line.number ∷ [] else []

-- the numbers of the lines that pass a test
abbrev pub numbers_of : (Line → Bool) → List Line → List ℕ
numbers_of test lines = flat_map (number_if test) lines

abbrev pub is_bang : ℕ → Bool
is_bang byte = nat_eq byte 33

-- a word with `!`, as each test with `!=` has it
abbrev pub has_bang : List ℕ → Bool
has_bang word = list_any is_bang word

-- words with `!`, which are well-formed triggers where each `!=` is read as `=`
abbrev pub are_good_as_equal : List (List ℕ) → Bool
are_good_as_equal words = list_any has_bang words && is_ok (triggers_of (map as_equal words))

abbrev pub good_header : Section → List ℕ
good_header section = if are_good_as_equal (header_args section) then section.header.number ∷ [] else []

-- The lines of a section of which another init takes the word, or the header with `!=`.
abbrev pub taken_elsewhere : List (List ℕ) → Section → List ℕ
taken_elsewhere allowed section =
    if is_on section.header then good_header section ++ numbers_of (is_excused_in_action allowed) section.body
    else if is_service section.header then numbers_of (is_excused_in_service allowed) section.body
    else []

abbrev pub all_taken_elsewhere : List (List ℕ) → List Line → List ℕ
all_taken_elsewhere allowed lines = flat_map (taken_elsewhere allowed) (sections lines)

-- only an unknown word and a bad trigger can be excused
abbrev pub is_excusable : DiagKind → Bool
is_excusable kind.BadWord = true
is_excusable kind.BadTrigger = true
is_excusable _ = false

-- a diagnostic that is no error: another init takes its line, in the file as the tree has it
abbrev pub is_excused : List (List ℕ) → Told → Diagnostic → Bool
is_excused allowed told diagnostic =
    is_excusable diagnostic.kind && list_any (nat_eq diagnostic.line) (all_taken_elsewhere allowed (lines_at told diagnostic.file))

-- the diagnostics that are errors
abbrev pub errors_among : List (List ℕ) → Told → List Diagnostic → List Diagnostic
errors_among allowed told diagnostics = filter (λ diagnostic. not (is_excused allowed told diagnostic)) diagnostics
