-- The lines of the contexts text (AOSP, property_contexts): NAME LABEL [exact|prefix] [TYPE], a line for a prefix and of
-- the type `string` where these are absent. The line of the name `*` is for all names that no other line is for.
use Rattle.std.specs.Prelude.{ℕ, Bool, if◌then◌else◌, List, [], ◌∷◌, codes, drop, Option, Some, None}
use Rattle.std.specs.List.{list_any, flat_map}
use Rattle.std.specs.Str.{bytes_eq}
use Rattle.init_machine.specs.Policy.{ContextLine}
use Rattle.init_machine.specs.declared.policy.Context.{Context}
use Rattle.init_machine.specs.declared.type_kind.TypeKind.{TypeKind}
use Rattle.init_machine.specs.declared.type_kind.TypeKind.TheVariants as kind
use Rattle.prop_contexts.specs.Lines.{is_comment, words_of}
use Rattle.prop_contexts.specs.declared.line.Reading.{Reading}
use Rattle.prop_contexts.specs.declared.line.Reading.TheVariants.{Skipped, Bad, Read}
use Rattle.prop_contexts.specs.declared.context_line.Scope.{Scope}
use Rattle.prop_contexts.specs.declared.context_line.Scope.TheVariants.{Default, Exact, Prefix}

-- a line that gives a context to names
pub record ScopedLine : Type 0 where
  pub scope : Scope
  pub line : ContextLine

abbrev pub is_one_of : List (List ℕ) → List ℕ → Bool
is_one_of words word = list_any (bytes_eq word) words

-- a type without values
abbrev pub plain_type : List ℕ → Option TypeKind
plain_type word =
    if is_one_of (codes "string" ∷ codes "double" ∷ codes "size" ∷ []) word then Some kind.Any
    else if bytes_eq word (codes "bool") then Some kind.Bool
    else if bytes_eq word (codes "int") then Some kind.Int
    else if bytes_eq word (codes "uint") then Some kind.Uint
    else None

-- `enum` has one or more values
abbrev pub type_with : List ℕ → List (List ℕ) → Option TypeKind
type_with word [] = plain_type word
type_with word (value ∷ values) = if bytes_eq word (codes "enum") then Some (kind.Enum (value ∷ values)) else None

-- the words of a type
abbrev pub type_of : List (List ℕ) → Option TypeKind
type_of [] = Some kind.Any
type_of (word ∷ values) = type_with word values

abbrev pub scope_of : List ℕ → Option Scope
scope_of word =
    if bytes_eq word (codes "exact") then Some Exact
    else if bytes_eq word (codes "prefix") then Some Prefix
    else None

-- the kind, by the words behind the label
abbrev pub kind_of : List (List ℕ) → Option Scope
kind_of [] = Some Prefix
kind_of (word ∷ words) = scope_of word

-- the kind of the line `*` says nothing
abbrev pub scope_for : List ℕ → Scope → Scope
scope_for name scope = if bytes_eq name (codes "*") then Default else scope

abbrev pub line_with : List ℕ → List ℕ → Option Scope → Option TypeKind → Reading ScopedLine
line_with name label None kind = Bad
line_with name label (Some scope) None = Bad
line_with name label (Some scope) (Some kind) = Read (record {
  scope = scope_for name scope;
  line = record { name = name; context = record { label = label; kind = kind } };
})

-- a line that begins with this name, by the words behind it
abbrev pub line_of : List ℕ → List (List ℕ) → Reading ScopedLine
line_of name [] = Bad
line_of name (label ∷ words) = line_with name label (kind_of words) (type_of (drop 1 words))

abbrev pub reading_of_words : List (List ℕ) → Reading ScopedLine
reading_of_words [] = Skipped
reading_of_words (first ∷ words) = if is_comment first then Skipped else line_of first words

-- what a line says
abbrev pub reading_of : List ℕ → Reading ScopedLine
reading_of line = reading_of_words (words_of line)

-- what lines give, in their order

abbrev pub default_in : Scope → Context → List Context
default_in Default context = context ∷ []
default_in Exact context = []
default_in Prefix context = []

abbrev pub exact_in : Scope → ContextLine → List ContextLine
exact_in Default line = []
exact_in Exact line = line ∷ []
exact_in Prefix line = []

abbrev pub prefix_in : Scope → ContextLine → List ContextLine
prefix_in Default line = []
prefix_in Exact line = []
prefix_in Prefix line = line ∷ []

abbrev pub read_in : {A : Type 0} → Reading A → List A
read_in Skipped = []
read_in Bad = []
read_in (Read line) = line ∷ []

abbrev pub scoped_lines : List (List ℕ) → List ScopedLine
scoped_lines lines = flat_map (λ line. read_in (reading_of line)) lines

-- the contexts of the lines `*`
abbrev pub default_contexts : List (List ℕ) → List Context
default_contexts lines = flat_map (λ l. default_in l.scope l.line.context) (scoped_lines lines)

abbrev pub exact_lines : List (List ℕ) → List ContextLine
exact_lines lines = flat_map (λ l. exact_in l.scope l.line) (scoped_lines lines)

abbrev pub prefix_lines : List (List ℕ) → List ContextLine
prefix_lines lines = flat_map (λ l. prefix_in l.scope l.line) (scoped_lines lines)
