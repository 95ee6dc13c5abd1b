-- How long the names of lines are.
use Rattle.std.specs.Prelude.{◌≡◌, ◌≤◌, ℕ, Bool, true, false, List, length, min}
use Rattle.std.specs.List.{slice_index_or}
use Rattle.init_machine.specs.Policy.{ContextLine}
use Rattle.prop_contexts.specs.NameLines.{has_name}
use Rattle.prop_contexts.specs.declared.name_lengths.NameLengths.{NameLengths}

-- a name of so many bytes may be there
abbrev pub may_have : NameLengths → ℕ → Bool
may_have lengths len = slice_index_or lengths.marks (min len 255) false

-- the length of each line's name is there
abbrev pub HaveLengths : List ContextLine → NameLengths → Type 0
HaveLengths lines lengths = (name : List ℕ) → has_name lines name ≡ true → (may_have lengths (length name) ≡ true) × (length name ≤ lengths.most)
