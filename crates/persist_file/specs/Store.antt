-- The text of the persistent store (this project's form of AOSP's persistent properties). It has two versions: the first has the
-- line `persist 1` and a line NAME VALUE for each pair, the second the line `persist 2` and a line NAME TYPE VALUE for each. A space
-- (32) parts the words of a line, LF (10) ends it. Names ascend by bytes. The empty text is the empty store.
use Rattle.std.specs.Prelude.{◌≡◌, ℕ, Bool, true, false, ◌&&◌, ◌⊎◌, IsTrue, nat_eq, List, [], ◌∷◌, ◌++◌, map, codes}
use Rattle.std.specs.List.{flat_map, list_all, starts_with}
use Rattle.hex.specs.Hex.{encode_lower}
use Rattle.init_base.specs.Name.{is_legal_name}
use Rattle.init_base.specs.Quoted.{quoted}
use Rattle.init_base.specs.Value.{is_short_value}
use Rattle.init_machine.specs.Pairs.{is_before}
use Rattle.init_machine.specs.Policy.{PolicyLines, context_of}
use Rattle.init_machine.specs.Typed.{is_typed}
use Rattle.init_machine.specs.declared.config.Pair.{Pair}
use Rattle.init_machine.specs.declared.type_kind.TypeKind.{TypeKind}
use Rattle.init_machine.specs.declared.type_kind.TypeKind.TheVariants as type
use Rattle.persist_file.specs.declared.kind.SavedKind.{SavedKind}
use Rattle.persist_file.specs.declared.kind.SavedKind.TheVariants as kind
use Rattle.persist_file.specs.declared.version.Version.{Version}
use Rattle.persist_file.specs.declared.version.Version.TheVariants.{First, Second}

-- ---- pairs that the store may hold

-- a name that is legal and begins with `persist.`
abbrev pub is_saved_name : List ℕ → Bool
is_saved_name name = is_legal_name name && starts_with nat_eq name (codes "persist.")

-- a pair that may be saved: its name is such a name, and its value is legal under it, so of at most 91 bytes
abbrev pub is_saved : Pair → Bool
is_saved pair = is_legal_name pair.name && starts_with nat_eq pair.name (codes "persist.") && is_short_value pair.value

-- each name is before the next in the order of bytes
abbrev pub names_ascend : List Pair → Bool
names_ascend [] = true
names_ascend (pair ∷ []) = true
names_ascend (pair ∷ next ∷ rest) = is_before pair.name next.name && names_ascend (next ∷ rest)

-- pairs that the store may hold
abbrev pub are_saved : List Pair → Bool
are_saved pairs = list_all is_saved pairs && names_ascend pairs

-- ---- types

-- the word of a type
abbrev pub kind_word : SavedKind → List ℕ
kind_word kind.Any = codes "any"
kind_word kind.Bool = codes "bool"
kind_word kind.Int = codes "int"
kind_word kind.Uint = codes "uint"
kind_word kind.Enum = codes "enum"

-- the type by which the value is checked; the store doesn't know the values of an `enum`, so it checks none
abbrev pub checked_by : SavedKind → TypeKind
checked_by kind.Any = type.Any
checked_by kind.Bool = type.Bool
checked_by kind.Int = type.Int
checked_by kind.Uint = type.Uint
checked_by kind.Enum = type.Any

abbrev pub passes : SavedKind → List ℕ → Bool
passes kind value = is_typed (checked_by kind) value

-- ---- lines

-- a value of version 1: each byte as two lower-case hexadecimal digits, or `-` where there is none
abbrev pub hex_text : List ℕ → List ℕ
hex_text [] = codes "-"
hex_text (b ∷ rest) = encode_lower (b ∷ rest)

-- what a line holds; those of version 1 have no type, which counts as `any`
pub record Entry : Type 0 where
  pub pair : Pair
  pub kind : SavedKind

abbrev pub entry : Pair → SavedKind → Entry
entry pair kind = record { pair = pair; kind = kind }

-- the line of an entry, without its end
abbrev pub line_text : Version → Entry → List ℕ
line_text First e = e.pair.name ++ 32 ∷ hex_text e.pair.value
line_text Second e = e.pair.name ++ 32 ∷ (kind_word e.kind ++ 32 ∷ quoted e.pair.value)

abbrev pub ended : List ℕ → List ℕ
ended line = line ++ 10 ∷ []

abbrev pub head_line : Version → List ℕ
head_line First = codes "persist 1"
head_line Second = codes "persist 2"

abbrev pub lines_text : Version → List Entry → List ℕ
lines_text version entries = flat_map (λ e. ended (line_text version e)) entries

abbrev pub text_of : Version → List Entry → List ℕ
text_of version entries = ended (head_line version) ++ lines_text version entries

-- ---- texts

-- whether a version has a type
abbrev pub has_kind : Version → SavedKind → Bool
has_kind First kind.Any = true
has_kind First kind.Bool = false
has_kind First kind.Int = false
has_kind First kind.Uint = false
has_kind First kind.Enum = false
has_kind Second kind = true

abbrev pub is_fit : Version → Entry → Bool
is_fit version e = has_kind version e.kind && passes e.kind e.pair.value

abbrev pub pairs_of : List Entry → List Pair
pairs_of entries = map (λ e. e.pair) entries

-- entries that a text of this version may have: their pairs may be saved, and each value passes its type
abbrev pub are_entries : Version → List Entry → Bool
are_entries version entries = are_saved (pairs_of entries) && list_all (is_fit version) entries

-- the text of these pairs in one of the versions
pub record IsText (bytes : List ℕ) (pairs : List Pair) : Type 0 where
  pub version : Version
  pub entries : List Entry
  pub are_fit : IsTrue (are_entries version entries)
  pub are : pairs ≡ pairs_of entries
  pub text : bytes ≡ text_of version entries

-- the text of these pairs; the empty text is the empty store
abbrev pub IsStore : List ℕ → List Pair → Type 0
IsStore bytes pairs = ((bytes ≡ []) × (pairs ≡ [])) ⊎ IsText bytes pairs

-- ---- printing

-- how the store spells a type; `string`, `double` and `size` are `any`
abbrev pub saved_kind : TypeKind → SavedKind
saved_kind type.Any = kind.Any
saved_kind type.Bool = kind.Bool
saved_kind type.Int = kind.Int
saved_kind type.Uint = kind.Uint
saved_kind (type.Enum values) = kind.Enum

-- the type of a name's context
abbrev pub kind_under : PolicyLines → List ℕ → SavedKind
kind_under policy name = saved_kind (context_of policy name).kind

abbrev pub entry_under : PolicyLines → Pair → Entry
entry_under policy pair = entry pair (kind_under policy pair.name)

-- the version 2 text of pairs under a policy, which is what is printed
abbrev pub store_text : PolicyLines → List Pair → List ℕ
store_text policy pairs = text_of Second (map (entry_under policy) pairs)

-- each value passes the type of its name's context
abbrev pub are_typed : PolicyLines → List Pair → Bool
are_typed policy pairs = list_all (λ pair. is_typed (context_of policy pair.name).kind pair.value) pairs

-- the version 2 text of these pairs whose types are those of a policy
pub record IsTextUnder (policy : PolicyLines) (bytes : List ℕ) (pairs : List Pair) : Type 0 where
  pub entries : List Entry
  pub are_fit : IsTrue (are_entries Second entries)
  pub types : entries ≡ map (entry_under policy) (pairs_of entries)
  pub are : pairs ≡ pairs_of entries
  pub text : bytes ≡ text_of Second entries
