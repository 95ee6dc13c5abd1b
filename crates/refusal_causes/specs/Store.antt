-- What is wrong with the first line of the persistent store's text that doesn't fit: its cause, with what stands there.
use Rattle.std.specs.Prelude.{◌≡◌, ℕ, ◌-◌, ◌==◌, Bool, not, ◌&&◌, nat_eq, if◌then◌else◌, List, [], ◌∷◌, length, slice_get, Option, Some, None}
use Rattle.std.specs.List.{ends_with}
use Rattle.std.specs.Str.{bytes_eq}
use Rattle.init_base.specs.Name.{is_legal_name}
use Rattle.init_base.specs.Value.{short_value_fault}
use Rattle.init_base.specs.declared.value.BadValue.{BadValue}
use Rattle.persist_file.specs.Causes.{value_in, version_of, words_in, IsUnfitAt, Words}
use Rattle.persist_file.specs.declared.refusal.StoreCause.{StoreCause}
use Rattle.persist_file.specs.declared.refusal.StoreCause.TheVariants as cause
use Rattle.persist_file.specs.declared.version.Version.{Version}
use Rattle.persist_file.specs.declared.version.Version.TheVariants.{First, Second}
use Rattle.script_lang.specs.Lines.{lines_of}
use Rattle.refusal_causes.specs.declared.store.cause.StoreFault.{StoreFault}
use Rattle.refusal_causes.specs.declared.store.cause.StoreFault.TheVariants as fault

abbrev pub or_empty : Option (List ℕ) → List ℕ
or_empty None = []
or_empty (Some line) = line

-- the line with a number, from 1; the empty one where there is none
abbrev pub line_at : List (List ℕ) → ℕ → List ℕ
line_at lines number = or_empty (slice_get lines (number - 1))

abbrev pub or_first : Option Version → Version
or_first None = First
or_first (Some version) = version

-- the version of a text; one whose first line is that of none counts as version 1
abbrev pub version_in : List (List ℕ) → Version
version_in lines = or_first (version_of (line_at lines 1))

abbrev pub name_of : Option Words → List ℕ
name_of None = []
name_of (Some words) = words.name

-- the name of a line; one that hasn't its version's words has the empty one
abbrev pub name_in : Version → List ℕ → List ℕ
name_in version line = name_of (words_in version line)

-- the line with this number is the last of so many, and the text doesn't end with LF (10)
abbrev pub lacks_end : List ℕ → ℕ → ℕ → Bool
lacks_end bytes count number = not (ends_with nat_eq bytes (10 ∷ [])) && count == number

abbrev pub shape_fault : Version → Bool → StoreFault
shape_fault version is_cut = if is_cut then fault.NoEnd else fault.NoWords version

abbrev pub name_fault : List ℕ → StoreFault
name_fault name = if is_legal_name name then fault.NotPersistent name else fault.IllegalName name

-- behind the line of this name and number
abbrev pub order_fault : List ℕ → ℕ → List ℕ → StoreFault
order_fault before number name = if bytes_eq before name then fault.Twice name number else fault.OutOfOrder name number

abbrev pub misspelled : Version → List ℕ → StoreFault
misspelled First word = fault.NotHex word
misspelled Second word = fault.NotQuoted word

abbrev pub legal_fault : List ℕ → List ℕ → Option BadValue → StoreFault
legal_fault kind value None = fault.NotTyped kind value
legal_fault kind value (Some why) = fault.IllegalValue why

abbrev pub spelled_fault : Version → List ℕ → List ℕ → Option (List ℕ) → StoreFault
spelled_fault version kind word None = misspelled version word
spelled_fault version kind word (Some value) = legal_fault kind value (short_value_fault value)

abbrev pub value_fault : Version → List ℕ → List ℕ → StoreFault
value_fault version kind word = spelled_fault version kind word (value_in version word)

-- the words of a line behind one of this name and number
abbrev pub words_fault : Version → List ℕ → ℕ → Words → StoreCause → StoreFault
words_fault version before earlier words cause.Head = name_fault words.name
words_fault version before earlier words cause.Shape = name_fault words.name
words_fault version before earlier words cause.Name = name_fault words.name
words_fault version before earlier words cause.Order = order_fault before earlier words.name
words_fault version before earlier words cause.Kind = fault.NoKind words.kind
words_fault version before earlier words cause.Value = value_fault version words.kind words.value

abbrev pub line_fault : Version → Bool → List ℕ → ℕ → Option Words → StoreCause → StoreFault
line_fault version is_cut before earlier None why = shape_fault version is_cut
line_fault version is_cut before earlier (Some words) why = words_fault version before earlier words why

abbrev pub by_words : List (List ℕ) → Bool → ℕ → StoreCause → StoreFault
by_words lines is_cut number why =
    let version = version_in lines in
    line_fault version is_cut (name_in version (line_at lines (number - 1))) (number - 1) (words_in version (line_at lines number)) why

abbrev pub fault_at : List (List ℕ) → Bool → ℕ → StoreCause → StoreFault
fault_at lines is_cut number cause.Head = fault.NoHead
fault_at lines is_cut number cause.Shape = shape_fault (version_in lines) is_cut
fault_at lines is_cut number cause.Name = by_words lines is_cut number cause.Name
fault_at lines is_cut number cause.Order = by_words lines is_cut number cause.Order
fault_at lines is_cut number cause.Kind = by_words lines is_cut number cause.Kind
fault_at lines is_cut number cause.Value = by_words lines is_cut number cause.Value

-- what is wrong with the line with this number, from 1, by its cause
abbrev pub fault_of : List ℕ → ℕ → StoreCause → StoreFault
fault_of bytes number why = fault_at (lines_of bytes) (lacks_end bytes (length (lines_of bytes)) number) number why

-- the line with this number is the first of the store's text that doesn't fit, and this is wrong with it
pub record IsStoreFault (bytes : List ℕ) (number : ℕ) (found : StoreFault) : Type 0 where
  pub cause : StoreCause
  pub bad : IsUnfitAt bytes number cause
  pub fault_is : found ≡ fault_of bytes number cause
