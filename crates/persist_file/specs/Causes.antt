-- Which line of a text is the first that doesn't fit, and why: of the causes the first, in the order of the enum, that holds of that line.
use Rattle.std.specs.Prelude.{◌≡◌, ◌≢◌, ⊤, ℕ, ◌+◌, ◌-◌, Bool, true, false, ◌&&◌, ◌==◌, ◌⊎◌, IsTrue, if◌then◌else◌, List, [], ◌∷◌, ◌++◌, length, slice_get, codes, Option, Some, None, Result, Ok, Err}
use Rattle.std.specs.List.{slice_split}
use Rattle.std.specs.Option.{option_map}
use Rattle.std.specs.Str.{bytes_eq}
use Rattle.hex.specs.Hex.{decode_of}
use Rattle.hex.specs.declared.error.FromHexError.{FromHexError}
use Rattle.init_base.specs.Quoted.{unquoted}
use Rattle.init_base.specs.Value.{is_short_value}
use Rattle.init_machine.specs.Pairs.{is_before, pair}
use Rattle.init_machine.specs.declared.config.Pair.{Pair}
use Rattle.persist_file.specs.Store.{Entry, are_entries, hex_text, is_saved_name, pairs_of, passes, text_of}
use Rattle.persist_file.specs.declared.kind.SavedKind.{SavedKind}
use Rattle.persist_file.specs.declared.kind.SavedKind.TheVariants as kind
use Rattle.persist_file.specs.declared.refusal.StoreCause.{StoreCause}
use Rattle.persist_file.specs.declared.refusal.StoreCause.TheVariants as cause
use Rattle.persist_file.specs.declared.refusal.StoreRefusal.{StoreRefusal}
use Rattle.persist_file.specs.declared.refusal.StoreRefusal.TheVariants as refusal
use Rattle.persist_file.specs.declared.version.Version.{Version}
use Rattle.persist_file.specs.declared.version.Version.TheVariants.{First, Second}

-- ---- the words of a line

-- the parts between the bytes of one value
abbrev pub parts_at : ℕ → List ℕ → List (List ℕ)
parts_at byte bytes = slice_split (λ b. b == byte) bytes

abbrev pub is_word : List ℕ → Bool
is_word [] = false
is_word (b ∷ rest) = true

-- the words of a line of some version; those of version 1 have no type, which counts as `any`
pub record Words : Type 0 where
  pub name : List ℕ
  pub kind : List ℕ
  pub value : List ℕ

abbrev pub filled : List ℕ → List ℕ → List ℕ → Option Words
filled name kind value =
    if is_word name && is_word kind && is_word value then Some (record { name = name; kind = kind; value = value }) else None

-- a name, a type, and the parts of what stands behind
abbrev pub three_words : List ℕ → List ℕ → List (List ℕ) → Option Words
three_words name kind [] = None
three_words name kind (value ∷ []) = filled name kind value
three_words name kind (value ∷ next ∷ more) = None

-- by the parts between the spaces
abbrev pub words_of : Version → List (List ℕ) → Option Words
words_of First [] = None
words_of First (name ∷ parts) = three_words name (codes "any") parts
words_of Second [] = None
words_of Second (name ∷ []) = None
words_of Second (name ∷ kind ∷ parts) = three_words name kind parts

-- None where a line hasn't the version's number of words, with one space between
abbrev pub words_in : Version → List ℕ → Option Words
words_in version line = words_of version (parts_at 32 line)

-- ---- what words mean

-- the type of a word
abbrev pub kind_named : List ℕ → Option SavedKind
kind_named word =
    if bytes_eq word (codes "any") then Some kind.Any
    else if bytes_eq word (codes "bool") then Some kind.Bool
    else if bytes_eq word (codes "int") then Some kind.Int
    else if bytes_eq word (codes "uint") then Some kind.Uint
    else if bytes_eq word (codes "enum") then Some kind.Enum
    else None

-- bytes of hexadecimal digits, where these are how the bytes are written
abbrev pub as_written : List ℕ → Result (List ℕ) FromHexError → Option (List ℕ)
as_written word (Err why) = None
as_written word (Ok value) = if bytes_eq (hex_text value) word then Some value else None

abbrev pub hex_value : List ℕ → Option (List ℕ)
hex_value word = if bytes_eq word (codes "-") then Some [] else as_written word (decode_of word)

-- the value of a word. None where its form isn't the version's
abbrev pub value_in : Version → List ℕ → Option (List ℕ)
value_in First word = hex_value word
value_in Second word = unquoted word

-- ---- why a line doesn't fit

-- whether a name is above that of the line before, if there is one
abbrev pub is_above : Option (List ℕ) → List ℕ → Bool
is_above None name = true
is_above (Some before) name = is_before before name

abbrev pub with_value : List ℕ → SavedKind → Option (List ℕ) → Result Pair StoreCause
with_value name kind None = Err cause.Value
with_value name kind (Some value) = if is_short_value value && passes kind value then Ok (pair name value) else Err cause.Value

abbrev pub with_kind : Version → Words → Option SavedKind → Result Pair StoreCause
with_kind version words None = Err cause.Kind
with_kind version words (Some kind) = with_value words.name kind (value_in version words.value)

abbrev pub of_words : Version → Option (List ℕ) → Option Words → Result Pair StoreCause
of_words version before None = Err cause.Shape
of_words version before (Some words) =
    if is_saved_name words.name then
    if is_above before words.name then with_kind version words (kind_named words.kind) else Err cause.Order
    else Err cause.Name

-- the pair of a line behind one of this name, or why it has none
abbrev pub line_reading : Version → Option (List ℕ) → List ℕ → Result Pair StoreCause
line_reading version before line = of_words version before (words_in version line)

-- the same of the first line of parts between LFs; a line behind which no part stands lacks its LF
abbrev pub next_reading : Version → Option (List ℕ) → List (List ℕ) → Result Pair StoreCause
next_reading version before [] = Err cause.Shape
next_reading version before (line ∷ []) = Err cause.Shape
next_reading version before (line ∷ next ∷ more) = line_reading version before line

-- the version of a first line
abbrev pub version_of : List ℕ → Option Version
version_of line = if bytes_eq line (codes "persist 1") then Some First else if bytes_eq line (codes "persist 2") then Some Second else None

abbrev pub of_version : Option Version → List (List ℕ) → Result Version StoreCause
of_version None more = Err cause.Head
of_version (Some version) [] = Err cause.Shape
of_version (Some version) (next ∷ more) = Ok version

-- the version of a text in parts between LFs, or why its first line doesn't fit
abbrev pub head_reading : List (List ℕ) → Result Version StoreCause
head_reading [] = Err cause.Head
head_reading (line ∷ more) = of_version (version_of line) more

-- ---- the first line that doesn't fit

abbrev pub last_name : List Pair → Option (List ℕ)
last_name pairs = option_map (λ (p : Pair). p.name) (slice_get pairs (length pairs - 1))

-- the first line is no version's
pub record HasBadHead (bytes : List ℕ) (line : ℕ) (why : StoreCause) : Type 0 where
  pub some : bytes ≢ []
  pub cause_is : head_reading (parts_at 10 bytes) ≡ Err why
  pub number_is : line ≡ 1

-- behind lines that fit stands one that doesn't
pub record HasBadLine (bytes : List ℕ) (line : ℕ) (why : StoreCause) : Type 0 where
  pub version : Version
  pub entries : List Entry
  pub rest : List ℕ
  pub are_fit : IsTrue (are_entries version entries)
  pub text : bytes ≡ text_of version entries ++ rest
  pub some : rest ≢ []
  pub cause_is : next_reading version (last_name (pairs_of entries)) (parts_at 10 rest) ≡ Err why
  pub number_is : line ≡ length entries + 2

-- the first line that doesn't fit, from 1, and why
abbrev pub IsUnfitAt : List ℕ → ℕ → StoreCause → Type 0
IsUnfitAt bytes line why = HasBadHead bytes line why ⊎ HasBadLine bytes line why

-- why the bytes are no store; want of memory is free
abbrev pub IsRefused : List ℕ → StoreRefusal → Type 0
IsRefused bytes (refusal.BadLine line why) = IsUnfitAt bytes line why
IsRefused bytes refusal.NoMemory = ⊤
