-- What a plain store is to its callers.
use Rattle.std.specs.Prelude.{ℕ, ◌≤◌, List, [], ◌∷◌, length, map}
use Rattle.std.specs.List.{flat_map}
use Rattle.init_base.specs.Value.{max_value_len}
use Rattle.init_machine.specs.internal.Nodes.{SameMembers}
use Rattle.init_machine.specs.Props.{Props, Property, names_of}
use Rattle.init_machine.specs.Words.{prefixes_of}

-- the map, and for how many sets there is memory already
pub record Stored : Type 0 where
  pub props : Props
  pub spare : ℕ

-- an entry's property: its name, and the value and number that it holds
abbrev pub property_of : List ℕ × (List ℕ × ℕ) → Property
property_of entry = record { name = entry.0; value = entry.1.0; number = entry.1.1 }

abbrev pub properties : List (List ℕ × (List ℕ × ℕ)) → List Property
properties entries = map property_of entries

-- each value is at most as long as its name allows
abbrev pub EachFits : List Property → Type 0
EachFits [] = Unit {0}
EachFits (h ∷ rest) = (length h.value ≤ max_value_len h.name) × EachFits rest

-- the known prefixes are the dotted prefixes of the properties' names
abbrev pub AreKnown : List (List ℕ) → List Property → Type 0
AreKnown known properties = SameMembers known (flat_map prefixes_of (names_of properties))
