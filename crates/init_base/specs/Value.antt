-- Which texts are a property's value (AOSP, system properties): UTF-8, of at most 91 bytes, or of at most 8,191 under a name that
-- begins with `ro.`, since such a property is set once and its cell never changes.
use Rattle.std.specs.Prelude.{ℕ, Bool, IsTrue, ◌&&◌, nat_le, nat_lt, List, length, Option, Some, None, if◌then◌else◌}
use Rattle.std.specs.Str.{is_utf8}
use Rattle.init_base.specs.Name.{is_read_only}
use Rattle.init_base.specs.declared.value.BadValue.{BadValue}
use Rattle.init_base.specs.declared.value.BadValue.TheVariants.{TooLong, NotUtf8}

-- the most bytes of a value under any name, and under this one
abbrev pub most_value_bytes : ℕ
most_value_bytes = 8191

abbrev pub max_value_len : List ℕ → ℕ
max_value_len name = if is_read_only name then 8191 else 91

abbrev pub is_legal_value : List ℕ → List ℕ → Bool
is_legal_value name value = nat_le (length value) (max_value_len name) && is_utf8 value

-- a value under a name
abbrev pub LegalValue : List ℕ → List ℕ → Type 0
LegalValue name value = IsTrue (is_legal_value name value)

-- a value under each name
abbrev pub is_short_value : List ℕ → Bool
is_short_value value = nat_le (length value) 91 && is_utf8 value

-- a value under some name
abbrev pub is_value : List ℕ → Bool
is_value value = nat_le (length value) most_value_bytes && is_utf8 value

abbrev pub IsSomeValue : List ℕ → Type 0
IsSomeValue value = IsTrue (is_value value)

-- why bytes are no value of at most so many: too long, else not UTF-8; none where they are one
abbrev pub fault_past : ℕ → List ℕ → Option BadValue
fault_past most bytes = if nat_lt most (length bytes) then Some (TooLong (length bytes)) else (if is_utf8 bytes then None else Some NotUtf8)

-- why bytes are a value under no name, why not under each, and why not under this one
abbrev pub value_fault : List ℕ → Option BadValue
value_fault bytes = fault_past most_value_bytes bytes

abbrev pub short_value_fault : List ℕ → Option BadValue
short_value_fault bytes = fault_past 91 bytes

abbrev pub value_fault_under : List ℕ → List ℕ → Option BadValue
value_fault_under name bytes = fault_past (max_value_len name) bytes
